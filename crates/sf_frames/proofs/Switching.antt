-- The same frames for another path that begins with the same tokens.
use Rattle.std.proofs.Common.{◌≡◌, ℕ, ◌+◌, ◌≤◌, List, [], ◌∷◌, length, take, map, get_or, sym, ap, ◌∙◌, subst, arith}
use Rattle.sf_frames.proofs.Common.{take-take, length-take-le, length-map, take_all, Design, Shape, Token, read, Frame, Kept, plans_of, AreSumsOrNone, path, items_at, IsFrame, IsStored, IsEndOf, token_of}
use Rattle.sf_frames.proofs.Keeping.{stored-cut}

-- paths that agree in their first n tokens
module _ (a b : List Token) (n : ℕ) (same : take n a ≡ take n b) where
  -- they agree in the first k of them
  pub begins-same : (k : ℕ) → k ≤ n → take k a ≡ take k b
  begins-same k le = sym (take-take k n a le) ∙ ap (take k) same ∙ take-take k n b le

  -- they have the same items there
  pub items-same : (k : ℕ) → k ≤ n → items_at a k ≡ items_at b k
  items-same k le = ap (read []) (begins-same k le)

module _ (design : Design) (a b : List Token) (n : ℕ) (same : take n a ≡ take n b) where
  -- a frame of the one is a frame of the other
  frame-switched : (points : List Shape) (whole k : ℕ) (f : Frame) → k ≤ n → IsFrame design a points whole k f → IsFrame design b points whole k f
  frame-switched points whole k f le m = record {
    item = m.item;
    top = sym (items-same a b n same k le) ∙ m.top ∙ ap (λ v. m.item ∷ v) (items-same a b n same f.below (omega (arith, m.fewer)));
    fewer = m.fewer;
    kept = m.kept;
    inside = m.inside;
    after = m.after;
    end = m.end;
    sums = subst (λ v. AreSumsOrNone (plans_of design (path design v)) f.sums) (begins-same a b n same k le) m.sums;
  }

  -- what is kept of the one is kept of the other
  pub stored-switched : (points : List Shape) (blocks : List Kept) (whole : ℕ) (frames : List Frame) → length frames ≤ n → length frames ≤ length b → IsStored design a points blocks whole frames → IsStored design b points blocks whole frames
  stored-switched points blocks whole frames le few m = record {
    wholes = m.wholes;
    frames_are = record {
      few = few;
      are = m.frames_are.are ∙ begins-same a b n same (length frames) le;
      each = λ k d lt. frame-switched points whole (k + 1) (get_or frames k d) (omega arith) (m.frames_are.each k d lt);
      ends = m.frames_are.ends;
      tight = m.frames_are.tight;
    };
  }

-- the frames are those of their own tokens
pub stored-own : (design : Design) (tokens : List Token) (points : List Shape) (blocks : List Kept) (whole : ℕ) (frames : List Frame) → IsStored design tokens points blocks whole frames → IsStored design (map token_of frames) points blocks whole frames
stored-own design tokens points blocks whole frames m =
    let n = length-map frames token_of in
    stored-switched design tokens (map token_of frames) (length frames)
    (sym m.frames_are.are ∙ sym (take_all (length frames) (map token_of frames) (omega (arith, n))))
    points blocks whole frames (omega arith) (omega (arith, n)) m

-- what is kept of a path for another that begins with the same tokens
pub stored-back : (design : Design) (tokens : List Token) (points rest : List Shape) (blocks : List Kept) (whole : ℕ) (frames first : List Frame) (count e : ℕ) (d : Frame) → IsStored design (map token_of frames) points blocks whole frames → count ≤ length frames → count ≤ length tokens → take count (map token_of frames) ≡ take count tokens → IsEndOf frames whole count e → rest ≡ take e points → first ≡ take count frames → IsStored design tokens rest blocks whole first
stored-back design tokens points rest blocks whole frames first count e d m le few same at_end r f =
    let n : length first ≡ count = ap length f ∙ length-take-le count frames le in
    stored-switched design (map token_of frames) tokens count same rest blocks whole first (omega (arith, n)) (omega (arith, n, few))
    (subst (λ v. IsStored design (map token_of frames) v blocks whole first) (sym r)
    (subst (IsStored design (map token_of frames) (take e points) blocks whole) (sym f)
    (stored-cut design (map token_of frames) points blocks whole frames count e m le at_end d)))
