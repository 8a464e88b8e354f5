-- A pl file stands for places exactly where reading gives them.
use Rattle.std.proofs.Common.{◌≡◌, ℕ, List, [], Result, Ok, Err, refl, sym, ap, subst, ◌∙◌}
use Rattle.sf_gsrc.proofs.Common.{codes, AllZip, GsrcFault, LineFault, Place, content_of, at_number, place_at, places_from, places_read, SaysPlace, PlacesStandFor, GsrcPlaces}
use Rattle.sf_gsrc.specs.PlaceLine.{place_said}
use Rattle.sf_gsrc.proofs.Results.{bind_ok, ok_is, opened_ok}
use Rattle.sf_gsrc.proofs.LineSteps.{said_if_read, read_if_said}

-- what is read at a line is what the line says
at_number_ok : {A : Type 0} (n : ℕ) (r : Result A LineFault) (x : A) → at_number n r ≡ Ok x → r ≡ Ok x
at_number_ok n (Ok y) x h = ap (λ z. Ok z) (ok_is {E = GsrcFault} y x h)
at_number_ok n (Err f) x h = absurd cc

-- a text stands for the places that are read from it
pub stands_from_read : (scale : ℕ) (text : List ℕ) (out : GsrcPlaces) → places_read scale text ≡ Ok out → PlacesStandFor scale text out
unfolding places_read
stands_from_read scale text out h =
    opened_ok (codes "pl") (content_of text) _ out (PlacesStandFor scale text out) h
    (λ title others are titled read.
    let k = bind_ok (places_from scale others) (λ places. Ok (record { places = places })) out read in
    let said = said_if_read (λ past line. place_at scale line) (SaysPlace scale) (λ ps. Unit {0}) (λ earlier line p e any. (at_number_ok line.number (place_said scale line.bytes) p e, tt)) others k.0 k.1 tt in
    let same : k.0 ≡ out.places = ap (λ (o : GsrcPlaces). o.places) (ok_is {E = GsrcFault} (record { places = k.0 }) out k.2) in
    record {
      title = title;
      others = others;
      lines_are = are;
      titled = titled;
      each = subst (λ (ps : List Place). AllZip (SaysPlace scale) others ps) same said.0;
    })

-- a text that stands for places is read as them
pub read_from_stands : (scale : ℕ) (text : List ℕ) (out : GsrcPlaces) → PlacesStandFor scale text out → places_read scale text ≡ Ok out
unfolding places_read
read_from_stands scale text out s =
    rw (s.lines_are, s.titled, read_if_said (λ past line. place_at scale line) (SaysPlace scale) (λ ps. Unit {0}) (λ earlier line p new e any. rw e refl) [] s.others out.places s.each tt) refl

-- a text stands for at most one list of places
pub stands_once_only : (scale : ℕ) (text : List ℕ) (a b : GsrcPlaces) → PlacesStandFor scale text a → PlacesStandFor scale text b → a ≡ b
stands_once_only scale text a b p q = ok_is {E = GsrcFault} a b (sym (read_from_stands scale text a p) ∙ read_from_stands scale text b q)
