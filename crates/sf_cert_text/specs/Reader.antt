-- How a reader stands between two words of a tree. These are words of the loops that read a text; what a text says stands in Reading.
use Rattle.std.specs.Prelude.{ℕ, List, [], ◌∷◌, ◌++◌, Option, Some, None, Result, Ok, Err}
use Rattle.sf_lex.specs.Scan.{LineWord}
use Rattle.sf_cert_text.specs.declared.fault.CertFault.{CertFault}
use Rattle.sf_cert_text.specs.declared.letter.HalfTag.{HalfTag}
use Rattle.sf_certificate.specs.declared.place.Place.{Place}
use Rattle.sf_certificate.specs.declared.tag.Tag.{Tag}
use Rattle.sf_cert_text.specs.declared.version.Version.{Version}
use Rattle.sf_certificate.specs.Places.{first_place}
use Rattle.sf_cert_text.specs.Reading.{tags_said, tree_from, with_tag}

-- a reader between two words: the places that wait for a tag, the version of the text, and a tag whose second word comes next
pub record Reader : Type 0 where
  pub places : List Place
  pub version : Version
  pub half : Option HalfTag

-- before the first word: the root waits
abbrev pub first_reader : Version → Reader
first_reader version = record { places = first_place ∷ []; version = version; half = None }

-- the tags that the words from here on spell
abbrev pub read_on : ℕ → ℕ → Reader → List LineWord → Result (List Tag) CertFault
read_on n last reader words = tree_from n last reader.places (tags_said reader.version last reader.half words)

-- tags in front of those that follow
abbrev pub with_tags : List Tag → Result (List Tag) CertFault → Result (List Tag) CertFault
with_tags tags (Ok more) = Ok (tags ++ more)
with_tags tags (Err fault) = Err fault

-- a tag, where there is one, in front of those that follow
abbrev pub with_some : Option Tag → Result (List Tag) CertFault → Result (List Tag) CertFault
with_some None tags = tags
with_some (Some tag) tags = with_tag tag tags
