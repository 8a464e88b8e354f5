-- A certificate without an open leaf stays valid with a bound whose parts are no lower.
use Rattle.std.proofs.Common.{◌≡◌, ℕ, ◌≤◌, List, [], ◌∷◌, ◌++◌, map, refl, arith, ap, sym, ◌∙◌, ◌⊎◌, inl, inr}
use Rattle.sf_bound_kit.proofs.Common.{Contains, Design, Parts, Part, root, extended, split, standard, part_value, greater, greater_part, kit_value, kit_part}
use Rattle.sf_curves.proofs.Members.{Contains-head, Contains-tail}
use Rattle.sf_node.specs.declared.part.Part.TheVariants as by
use Rattle.sf_certificate.specs.declared.cert.Cert.{Cert}
use Rattle.sf_certificate.specs.declared.tag.Tag.{Tag}
use Rattle.sf_certificate.specs.declared.tag.Tag.TheVariants.{Extend, Split, Closed, Open}
use Rattle.sf_certificate.specs.Valid.{AreTrees, IsValid, left_open, least}

-- parts that are no lower close what was closed
more-closed : (p q : Parts → Part → ℕ) (cost : ℕ) → ((node : Parts) (part : Part) → p node part ≤ q node part) → (nodes : List Parts) (tags : List Tag) → AreTrees p cost nodes tags → AreTrees q cost nodes tags
more-closed p q cost le [] [] h = tt
more-closed p q cost le [] (tag ∷ tags) h = h
more-closed p q cost le (node ∷ nodes) [] h = h
more-closed p q cost le (node ∷ nodes) (Extend ∷ tags) h = (h.0, more-closed p q cost le (extended node ++ nodes) tags h.1)
more-closed p q cost le (node ∷ nodes) (Split b ∷ tags) h = (h.0, more-closed p q cost le (split node b ++ nodes) tags h.1)
more-closed p q cost le (node ∷ nodes) (Closed part ∷ tags) h = (omega (arith, h.0, le node part), more-closed p q cost le nodes tags h.1)
more-closed p q cost le (node ∷ nodes) (Open ∷ tags) h = more-closed p q cost le nodes tags h

-- without an open leaf nothing is left open
none-open : (nodes : List Parts) (tags : List Tag) → (Contains tags Open → ⊥) → left_open nodes tags ≡ []
none-open [] tags h = refl
none-open (node ∷ nodes) [] h = refl
none-open (node ∷ nodes) (Extend ∷ tags) h = none-open (extended node ++ nodes) tags (λ c. h (Contains-tail Extend tags Open c))
none-open (node ∷ nodes) (Split b ∷ tags) h = none-open (split node b ++ nodes) tags (λ c. h (Contains-tail (Split b) tags Open c))
none-open (node ∷ nodes) (Closed part ∷ tags) h = none-open nodes tags (λ c. h (Contains-tail (Closed part) tags Open c))
none-open (node ∷ nodes) (Open ∷ tags) h = absurd (h (Contains-head Open tags))

-- such a certificate stays valid
more-valid : (design : Design) (f g : Parts → ℕ) (p q : Parts → Part → ℕ) (cert : Cert) → ((node : Parts) (part : Part) → p node part ≤ q node part) → (Contains cert.tags Open → ⊥) → IsValid design f p cert → IsValid design g q cert
more-valid design f g p q cert le closed valid =
    let none = none-open (root design ∷ []) cert.tags closed in
    record {
      plan = valid.plan;
      tree = more-closed p q cert.cost le (root design ∷ []) cert.tags valid.tree;
      stated = valid.stated ∙ ap (λ ns. least cert.cost (map f ns)) none ∙ sym (ap (λ ns. least cert.cost (map g ns)) none);
    }

-- no part of a kit is below that of the standard bound
kit-above : (own : Design → Parts → ℕ) (design : Design) (node : Parts) (part : Part) → part_value design node part ≤ kit_part own design node part
kit-above own design node by.Area = omega arith
kit-above own design node by.Range = omega arith
kit-above own design node by.Pair = omega arith
kit-above own design node by.Hull = omega arith
kit-above own design node by.Full = omega arith

-- what is valid with the standard bound is valid with a kit
pub kit-valid : (design : Design) (own : Design → Parts → ℕ) (cert : Cert) → (Contains cert.tags Open → ⊥) → IsValid design (standard design) (part_value design) cert → IsValid design (kit_value own design) (kit_part own design) cert
kit-valid design own cert closed valid =
    more-valid design (standard design) (kit_value own design) (part_value design) (kit_part own design) cert (kit-above own design) closed valid

-- what is valid with one of two bounds is valid with the greater of both
pub both-valid : (design : Design) (f g : Parts → ℕ) (p q : Parts → Part → ℕ) (cert : Cert) → (Contains cert.tags Open → ⊥) → IsValid design f p cert ⊎ IsValid design g q cert → IsValid design (greater f g) (greater_part p q) cert
both-valid design f g p q cert closed valid =
    elim valid [
      | inl v ↦ more-valid design f (greater f g) p (greater_part p q) cert (λ node part. omega arith) closed v
      | inr v ↦ more-valid design g (greater f g) q (greater_part p q) cert (λ node part. omega arith) closed v
    ]
