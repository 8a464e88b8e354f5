-- A block has one list: also where no width is allowed, though then any empty interval tells its widths.
use Rattle.std.proofs.Common.{◌≡◌, ℕ, ◌<◌, ◌≤◌, ◌⊎◌, inl, inr, Bool, true, List, [], ◌∷◌, length, map, Option, Some, None, refl, ap, sym, ◌∙◌, arith, nat_le, option_map}
use Rattle.sf_soft_shapes.proofs.Common.{AllByRecursion, zip, nat_tests, Shape, RawBlock, AreFirstLists, AreListsOf, HasNoneFor, IsListOf, height_at, shape, width_count, widths, recursion_from_All, cases_lt, first_shapeless, NoShape}
use Rattle.sf_parts.specs.declared.fault.BuildFault.{BuildFault}
use Rattle.sf_parts.specs.declared.raw.Kind.{Kind}
use Rattle.sf_parts.specs.declared.raw.Kind.TheVariants as kind

-- an empty interval has no width
no_width : (k lo hi : ℕ) → hi < lo → widths k lo hi ≡ []
no_width k lo hi less =
    let none : width_count lo hi ≡ 0 = omega arith in
    let fits : nat_le 0 k ≡ true = grind (arith, nat_tests) in
    rw (none, fits) refl

-- the widths of two intervals that hold the same numbers
same_widths : (k lo hi lo' hi' : ℕ) → ((w : ℕ) → (lo ≤ w) × (w ≤ hi) → (lo' ≤ w) × (w ≤ hi')) → ((w : ℕ) → (lo' ≤ w) × (w ≤ hi') → (lo ≤ w) × (w ≤ hi)) → widths k lo hi ≡ widths k lo' hi'
same_widths k lo hi lo' hi' to from =
    elim (cases_lt hi lo) [
      | inl less ↦ elim (cases_lt hi' lo') [
        | inl less' ↦ no_width k lo hi less ∙ sym (no_width k lo' hi' less')
        | inr some ↦ (let low = from lo' (omega arith, omega arith) in absurd (omega arith))
      ]
      | inr some ↦ (
          let low = to lo (omega arith, omega arith) in
          let high = to hi (omega arith, omega arith) in
          let low' = from lo' (omega arith, omega arith) in
          let high' = from hi' (omega arith, omega arith) in
          let a : lo ≡ lo' = omega arith in
          let b : hi ≡ hi' = omega arith in
          ap (λ l. widths k l hi) a ∙ ap (widths k lo') b
          )
    ]

-- two lists of shapes of one block are the same
pub one-list : (k : ℕ) (fixed : Bool) (of : Kind) (a b : List Shape) → IsListOf k fixed of a → IsListOf k fixed of b → a ≡ b
one-list k fixed (kind.Hard w h) a b p q = p ∙ sym q
one-list k fixed (kind.Soft area least most) a b p q =
    let same = same_widths k p.lo p.hi q.lo q.hi (λ w i. (q.between w).0 ((p.between w).1 i)) (λ w i. (p.between w).0 ((q.between w).1 i)) in
    p.listed ∙ ap (map (λ w. shape w (height_at area w))) same ∙ sym q.listed

-- each of these lists is that of the block at its place, block by block
FirstLists : ℕ → Bool → List RawBlock → List (List Shape) → Type 0
FirstLists k fixed blocks lists = AllByRecursion (λ b. IsListOf k fixed b.0.kind b.1) (zip blocks lists)

-- lists that are those of their blocks by place are so block by block
by_recursion : (k : ℕ) (fixed : Bool) (blocks : List RawBlock) (lists : List (List Shape)) → AreFirstLists k fixed blocks lists → FirstLists k fixed blocks lists
unfolding FirstLists
by_recursion k fixed blocks lists h = recursion_from_All (λ (b : RawBlock × List Shape). IsListOf k fixed b.0.kind b.1) (zip blocks lists) h

-- as many lists as blocks, each that of its block, are the same as any others
lists-one : (k : ℕ) (fixed : Bool) (blocks : List RawBlock) (xs ys : List (List Shape)) → length xs ≡ length blocks → length ys ≡ length blocks → FirstLists k fixed blocks xs → FirstLists k fixed blocks ys → xs ≡ ys
unfolding FirstLists
lists-one k fixed [] [] [] i j a b = refl
lists-one k fixed [] [] (y ∷ ys) i j a b = absurd (omega arith)
lists-one k fixed [] (x ∷ xs) ys i j a b = absurd (omega arith)
lists-one k fixed (r ∷ rs) [] ys i j a b = absurd (omega arith)
lists-one k fixed (r ∷ rs) (x ∷ xs) [] i j a b = absurd (omega arith)
lists-one k fixed (r ∷ rs) (x ∷ xs) (y ∷ ys) i j a b =
    ap (λ (z : List Shape). z ∷ xs) (one-list k fixed r.kind x y a.0 b.0) ∙ ap (λ (zs : List (List Shape)). y ∷ zs) (lists-one k fixed rs xs ys (omega arith) (omega arith) a.1 b.1)

-- two lists of the lists of all blocks are the same
pub all-lists : (k : ℕ) (fixed : Bool) (blocks : List RawBlock) (a b : List (List Shape)) → AreListsOf k fixed blocks a → AreListsOf k fixed blocks b → a ≡ b
all-lists k fixed blocks a b p q = lists-one k fixed blocks a b p.one_each q.one_each (by_recursion k fixed blocks a p.each) (by_recursion k fixed blocks b q.each)

-- the first block without a shape is the same in both, as far as both have lists
same_shapeless : (k : ℕ) (fixed : Bool) (blocks : List RawBlock) (xs ys : List (List Shape)) (n : List ℕ) → FirstLists k fixed blocks xs → FirstLists k fixed blocks ys → first_shapeless blocks xs ≡ Some n → (first_shapeless blocks ys ≡ Some n) ⊎ ((first_shapeless blocks ys ≡ None) × (length ys < length blocks))
unfolding FirstLists
same_shapeless k fixed [] xs ys n a b e = absurd (cc)
same_shapeless k fixed (r ∷ rs) [] ys n a b e = absurd (cc)
same_shapeless k fixed (r ∷ rs) (x ∷ xs) [] n a b e = inr (refl, omega arith)
same_shapeless k fixed (r ∷ rs) ([] ∷ xs) ([] ∷ ys) n a b e = inl e
same_shapeless k fixed (r ∷ rs) ([] ∷ xs) ((s ∷ ss) ∷ ys) n a b e = let same = one-list k fixed r.kind [] (s ∷ ss) a.0 b.0 in absurd (cc)
same_shapeless k fixed (r ∷ rs) ((s ∷ ss) ∷ xs) ([] ∷ ys) n a b e = let same = one-list k fixed r.kind (s ∷ ss) [] a.0 b.0 in absurd (cc)
same_shapeless k fixed (r ∷ rs) ((s ∷ ss) ∷ xs) ((t ∷ ts) ∷ ys) n a b e =
    elim (same_shapeless k fixed rs xs ys n a.1 b.1 e) [ inl is ↦ inl is | inr none ↦ inr (none.0, omega (arith, none.1)) ]

-- a fault that tells a block without a shape tells its name
name_of : (o : Option (List ℕ)) (f : BuildFault) → option_map NoShape o ≡ Some f → (n : List ℕ) × (o ≡ Some n) × (f ≡ NoShape n)
name_of None f e = absurd (cc)
name_of (Some n) f e = (n, refl, cc)

-- two faults of the first block without a shape are the same
pub one-fault : (k : ℕ) (fixed : Bool) (blocks : List RawBlock) (f g : BuildFault) → HasNoneFor k fixed blocks f → HasNoneFor k fixed blocks g → f ≡ g
one-fault k fixed blocks f g p q =
    let a = name_of (first_shapeless blocks p.0) f p.2 in
    let b = name_of (first_shapeless blocks q.0) g q.2 in
    let bs : first_shapeless blocks q.0 ≡ Some b.0 = b.1 in
    elim (same_shapeless k fixed blocks p.0 q.0 a.0 (by_recursion k fixed blocks p.0 p.1) (by_recursion k fixed blocks q.0 q.1) a.1) [
      | inl is ↦ (let same : Some b.0 ≡ Some a.0 = sym bs ∙ is in let names : b.0 ≡ a.0 = cc in a.2 ∙ ap NoShape (sym names) ∙ sym b.2)
      | inr none ↦ (let e : Some b.0 ≡ None = sym bs ∙ none.0 in absurd (cc))
    ]

-- a fault is that of the first empty list, where all blocks have lists
pub fault-empty : (k : ℕ) (fixed : Bool) (blocks : List RawBlock) (lists : List (List Shape)) (f : BuildFault) → AreListsOf k fixed blocks lists → HasNoneFor k fixed blocks f → option_map NoShape (first_shapeless blocks lists) ≡ Some f
fault-empty k fixed blocks lists f all none =
    let name = name_of (first_shapeless blocks none.0) f none.2 in
    elim (same_shapeless k fixed blocks none.0 lists name.0 (by_recursion k fixed blocks none.0 none.1) (by_recursion k fixed blocks lists all.each) name.1) [
      | inl is ↦ ap (option_map NoShape) is ∙ ap Some (sym name.2)
      | inr short ↦ (let low = short.1 in absurd (omega (arith, all.one_each)))
    ]
