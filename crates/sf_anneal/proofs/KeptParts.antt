-- What was found for moved tokens is kept for them.
use Rattle.std.proofs.Common.{◌≡◌, ℕ, ◌+◌, ◌-◌, ◌*◌, ◌<◌, List, ◌++◌, length, take, drop, arith, ap, false, subst, sym, ◌∙◌, slice_index_or}
use Rattle.sf_anneal.proofs.Common.{Design, Shape, take-append_seam, Spot, block_count, Token, Moved, Parts, AreBlockCurves, AreKnown, AreMoved, HaveRoom, IsFound, IsReady, before_in, chosen_curve, curve_by, kept_in, known_curve, moved_curve, token_at}
use Rattle.sf_anneal.specs.declared.keeping.Kept.{Kept}
use Rattle.sf_anneal.proofs.Renewing.{parts-like}

-- the curves that were chosen are those of the known parts
kept-known : (design : Design) (blocks : List (List Shape)) (known new : Parts) (moved : Moved) (tokens : List Token) (m : ℕ) → length tokens < m → new.before.items ≡ moved.before.items
    → ((k : ℕ) → k < m → kept_in new.curves.items k ≡ chosen_curve known moved (slice_index_or moved.fresh.items k false) k) → AreMoved design blocks known moved tokens → AreKnown design blocks new tokens
kept-known design blocks known new moved tokens m lt eb ec found =
    parts-like design tokens (length tokens) (before_in moved.before.items) (before_in new.before.items) (moved_curve blocks known moved tokens) (known_curve blocks new tokens)
    (λ i h. sym (ap (λ v. before_in v i) eb)) (λ i h. sym (ap (curve_by blocks (token_at tokens (i - 1))) (ec i (omega (arith, h, lt))))) found

-- so what is kept fits them
pub kept-ready : (design : Design) (kept new : Kept) (others tokens : List Token) → length tokens + 1 ≡ 2 * block_count design → IsReady design kept others → IsFound design kept tokens → HaveRoom (length kept.known.before.items) new.known new.moved → new.blocks ≡ kept.blocks
    → new.known.before.items ≡ kept.moved.before.items
    → ((k : ℕ) → k < length kept.known.before.items → kept_in new.known.curves.items k ≡ chosen_curve kept.known kept.moved (slice_index_or kept.moved.fresh.items k false) k) → IsReady design new tokens
kept-ready design kept new others tokens whole ready found room eb before curves =
    let same : new.blocks.items ≡ kept.blocks.items = ap (λ v. v.items) eb in
    record {
      blocks = ap length same ∙ ready.blocks;
      curves = subst (AreBlockCurves design) (sym same) ready.curves;
      known = subst (λ b. AreKnown design b new.known tokens) (sym same) (kept-known design kept.blocks.items kept.known new.known kept.moved tokens (length kept.known.before.items) (omega (arith, ready.room.before, whole)) before curves found);
      room = subst (λ n. HaveRoom n new.known new.moved) ready.room.before room;
    }

-- what is kept fits the same tokens while others are tried
pub still-ready : (design : Design) (kept new : Kept) (tokens : List Token) → IsReady design kept tokens → new.blocks ≡ kept.blocks → new.known ≡ kept.known → HaveRoom (2 * block_count design) kept.known new.moved → IsReady design new tokens
still-ready design kept new tokens ready eb ek room = record {
  blocks = ap (λ v. length v.items) eb ∙ ready.blocks;
  curves = subst (λ v. AreBlockCurves design v.items) (sym eb) ready.curves;
  known = subst (λ b. AreKnown design b.items new.known tokens) (sym eb) (subst (λ p. AreKnown design kept.blocks.items p tokens) (sym ek) ready.known);
  room = subst (λ p. HaveRoom (2 * block_count design) p new.moved) (sym ek) room;
}

-- and what was found for these is found
pub now-found : (design : Design) (kept new : Kept) (tokens : List Token) → new.blocks ≡ kept.blocks → new.known ≡ kept.known → AreMoved design kept.blocks.items kept.known new.moved tokens → IsFound design new tokens
now-found design kept new tokens eb ek found = subst (λ b. AreMoved design b.items new.known new.moved tokens) (sym eb) (subst (λ p. AreMoved design kept.blocks.items p new.moved tokens) (sym ek) found)

-- a list that was written as a slice is as long as before
pub written-long : (new items : List Spot) (n : ℕ) → n ≡ length new → length (take n (new ++ drop (length new) items)) ≡ n
written-long new items n e = ap length (subst (λ v. take v (new ++ drop (length new) items) ≡ new) (sym e) (take-append_seam new (drop (length new) items))) ∙ sym e
