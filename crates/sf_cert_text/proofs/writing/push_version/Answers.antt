use Rattle.std.proofs.Common.{ap, ◌∙◌, ◌∷◌, [], ◌++◌, List, ℕ, string_bytes}
use Rattle.sf_cert_text.proofs.Common.{codes, version_text}
use Rattle.sf_cert_text.proofs.PathTexts.{three-parts}
use Rattle.sf_cert_text.proofs.writing.push_version.Goals as goal

pub returns : goal.returns
returns c =
    three-parts (string_bytes c.args.text.now) (string_bytes c.push_str.new.self) (string_bytes c.push_str-2.new.self) (string_bytes c.push_str-3.new.self) (codes "slicing-certificate ") (version_text c.args.paths.now) (10 ∷ [])
    c.in_ok-push_str.ensures.bytes (c.in_ok-push_str-2.ensures.bytes ∙ ap (λ (t : List ℕ). string_bytes c.push_str.new.self ++ t) c.version_of.ensures) c.in_ok-push_str-3.ensures.bytes
