-- Lists that follow one another: those before a place, the one there and those behind it.
use Rattle.std.proofs.Common.{◌≡◌, ℕ, suc, ◌+◌, ◌<◌, List, [], ◌++◌, take, drop, length, get_or, ap, sym, ◌∙◌}
use Rattle.std.proofs.Math.Seq.{drop-cons}
use Rattle.std.proofs.lemmas.Grind.{flat_map-append}
use Rattle.std.proofs.lemmas.List.{flat_map_more, take-append-drop, take_more}
use Rattle.sf_certificate.proofs.Common.{flat_map}

module _ {X A : Type 0} (f : X → List A) (runs : List X) (i : ℕ) (d : X) (below : i < length runs) where
  -- the lists before a place, the one there and those behind it are all
  pub at-run : flat_map f runs ≡ flat_map f (take i runs) ++ (f (get_or runs i d) ++ flat_map f (drop (suc i) runs))
  at-run =
      ap (flat_map f) (sym (take-append-drop i runs)) ∙ flat_map-append f (take i runs) (drop i runs)
      ∙ ap (λ (xs : List X). flat_map f (take i runs) ++ flat_map f xs) (drop-cons runs i d below)

  -- the lists before a place and the one there are those before the next place
  pub past-run : flat_map f (take i runs) ++ f (get_or runs i d) ≡ flat_map f (take (i + 1) runs)
  past-run = flat_map_more f [] (take i runs) (get_or runs i d) ∙ ap (flat_map f) (sym (take_more runs i d below))
