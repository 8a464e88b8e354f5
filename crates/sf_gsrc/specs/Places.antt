-- What a pl file stands for, and its first fault if it stands for nothing.
use Rattle.std.specs.Prelude.{◌≡◌, ℕ, true, List, [], ◌∷◌, ◌++◌, Result, Ok, Err, codes}
use Rattle.std.specs.List.{AllZip}
use Rattle.sf_lex.specs.Scan.{Line}
use Rattle.sf_gsrc.specs.declared.fault.GsrcFault.{GsrcFault}
use Rattle.sf_gsrc.specs.declared.fault.LineFault.{LineFault}
use Rattle.sf_gsrc.specs.declared.output.Place.{Place}
use Rattle.sf_gsrc.specs.declared.output.GsrcPlaces.{GsrcPlaces}
use Rattle.sf_lex.specs.Results.{◌>>=◌}
use Rattle.sf_gsrc.specs.PlaceLine.{place_said}
use Rattle.sf_gsrc.specs.Blocks.{content_of, read_from, is_title, opened, fault_at}

-- what a line says, or its fault with the line's number
abbrev pub at_number : {A : Type 0} → ℕ → Result A LineFault → Result A GsrcFault
at_number n (Ok x) = Ok x
at_number n (Err fault) = Err (fault_at n fault)

-- what a line says
abbrev pub place_at : ℕ → Line → Result Place GsrcFault
place_at scale line = at_number line.number (place_said scale line.bytes)

-- what the lines say, behind what the earlier ones said
abbrev pub places_behind : ℕ → List Place → List Line → Result (List Place) GsrcFault
places_behind scale earlier lines = read_from (λ past line. place_at scale line) (λ past p. past ++ p ∷ []) earlier lines

-- what all lines say
abbrev pub places_from : ℕ → List Line → Result (List Place) GsrcFault
places_from scale lines = places_behind scale [] lines

-- what the lines say behind their title
abbrev pub places_titled : ℕ → List Line → Result GsrcPlaces GsrcFault
places_titled scale all = opened (codes "pl") all >>= λ o. (places_from scale o.1 >>= λ places. Ok (record { places = places }))

-- what a text is read as
unfoldable pub places_read : ℕ → List ℕ → Result GsrcPlaces GsrcFault
places_read scale text = places_titled scale (content_of text)

-- ---- the same as a relation: behind the title each line says a place

-- a line says a place
abbrev pub SaysPlace : ℕ → Line → Place → Type 0
SaysPlace scale line place = place_said scale line.bytes ≡ Ok place

-- behind the title each line says a place
pub record PlacesStandFor (scale : ℕ) (text : List ℕ) (out : GsrcPlaces) : Type 0 where
  pub title : Line
  pub others : List Line
  pub lines_are : content_of text ≡ title ∷ others
  pub titled : is_title (codes "pl") title.bytes ≡ true
  pub each : AllZip (SaysPlace scale) others out.places
