-- Flags that say for each block whether it is among the tokens.
use Rattle.std.proofs.Common.{◌≡◌, ℕ, ◌+◌, ◌<◌, Bool, true, false, List, [], ◌∷◌, ◌++◌, length, get_or, map, arith, refl, ap, sym, ◌∙◌, inl, inr, ◌==◌, ◌≢◌}
use Rattle.sf_expr_text.proofs.Common.{slice_set, replicate, Ok, Err, list_all, range_with_len, eqb_tells, get_or-set_same, get_or-set_other, length-set, get_or-replicate, length-replicate, Token, MissingBlock, NotBallot, is_block, operands, operators, is_named, whole_tokens, list_any-append, list_all-map}
use Rattle.std.proofs.lemmas.List.FromFn.{fill_by_all, get_or-map-range_with_len}
use Rattle.std.proofs.Math.Bool.{or-true, or-false}
use Rattle.sf_polish.specs.declared.expr.Token.TheVariants as token

-- a block is named once its token is taken
pub named-same : (b : ℕ) (ts : List Token) → is_named b (ts ++ token.Block b ∷ []) ≡ true
named-same b ts =
    let same : (b == b) ≡ true = elim (eqb_tells b b) [ inl p ↦ p.0 | inr p ↦ absurd (p.1 refl) ] in
    list_any-append (is_block b) ts (token.Block b ∷ []) ∙ rw same (or-true (is_named b ts))

-- and no other block is
pub named-other : (k b : ℕ) (ts : List Token) → k ≢ b → is_named k (ts ++ token.Block b ∷ []) ≡ is_named k ts
named-other k b ts h =
    let other : (b == k) ≡ false = elim (eqb_tells b k) [ inl p ↦ absurd (h (sym p.1)) | inr p ↦ p.0 ] in
    list_any-append (is_block k) ts (token.Block b ∷ []) ∙ rw other (or-false (is_named k ts))

-- the flags of the tokens
abbrev pub flags_of : ℕ → List Token → List Bool
flags_of blocks ts = map (λ b. is_named b ts) (range_with_len 0 blocks)

-- before the first token no block is flagged, as none is named
pub flags-none : (blocks : ℕ) (flags : List Bool) (ts : List Token) → ts ≡ [] → flags ≡ replicate blocks false → flags ≡ flags_of (length flags) ts
flags-none blocks flags ts none e =
    let n : length flags ≡ blocks = ap length e ∙ length-replicate blocks false in
    fill_by_all (λ b. is_named b ts) flags (length flags) false refl
    (λ k h. ap (λ z. get_or z k false) e ∙ get_or-replicate blocks k false false (omega (arith, n)) ∙ sym (ap (is_named k) none))

-- a block's flag says whether the tokens name it
pub flag-at : (flags : List Bool) (ts : List Token) (b : ℕ) (d : Bool) → flags ≡ flags_of (length flags) ts → b < length flags → get_or flags b d ≡ is_named b ts
flag-at flags ts b d e h = ap (λ z. get_or z b d) e ∙ get_or-map-range_with_len (λ b. is_named b ts) 0 (length flags) b b d h (omega arith)

-- once the flag of a block is set, each flag says whether the tokens with that block behind them name its block
flag-step : (flags : List Bool) (ts : List Token) (b k : ℕ) → flags ≡ flags_of (length flags) ts → b < length flags → k < length flags → get_or (slice_set flags b true) k false ≡ is_named k (ts ++ token.Block b ∷ [])
flag-step flags ts b k e h i = elim (eqb_tells k b) [
  | inl p ↦ ap (λ n. get_or (slice_set flags b true) n false) p.1 ∙ get_or-set_same flags b true false h ∙ sym (named-same b ts) ∙ ap (λ n. is_named n (ts ++ token.Block b ∷ [])) (sym p.1)
  | inr p ↦ get_or-set_other flags b k true false p.1 ∙ flag-at flags ts k false e i ∙ sym (named-other k b ts p.1)
]

-- one block more
pub flags-push : (flags : List Bool) (ts new : List Token) (b : ℕ) → flags ≡ flags_of (length flags) ts → b < length flags → new ≡ ts ++ token.Block b ∷ [] → slice_set flags b true ≡ flags_of (length (slice_set flags b true)) new
flags-push flags ts new b e h n =
    fill_by_all (λ k. is_named k new) (slice_set flags b true) (length (slice_set flags b true)) false refl
    (λ k i. flag-step flags ts b k e h (omega (arith, length-set flags b true)) ∙ ap (is_named k) (sym n))

-- all flags are set where each block is named
pub flags-all : (flags : List Bool) (ts : List Token) → flags ≡ flags_of (length flags) ts → list_all (λ b. b) flags ≡ list_all (λ b. is_named b ts) (range_with_len 0 (length flags))
flags-all flags ts e = ap (list_all (λ b. b)) e ∙ list_all-map (λ b. b) (λ b. is_named b ts) (range_with_len 0 (length flags))

-- the end of a text, by the flags and by how many more operands than operators there are
module _ (last depth : ℕ) (flags : List Bool) (ts : List Token) (e : flags ≡ flags_of (length flags) ts) (balance : operands ts ≡ operators ts + depth) where
  -- where a flag is not set, the text ends with a block missing
  pub whole_tokens-missing : list_all (λ b. b) flags ≡ false → whole_tokens (length flags) last ts ≡ Err (MissingBlock last)
  whole_tokens-missing none = rw (sym (flags-all flags ts e) ∙ none) refl

  -- where all flags are set and not just one plan is left, the text ends unbalanced
  pub whole_tokens-unbalanced : list_all (λ b. b) flags ≡ true → depth ≢ 1 → whole_tokens (length flags) last ts ≡ Err (NotBallot last)
  whole_tokens-unbalanced all h =
      let other : (operators ts + 1 == operands ts) ≡ false = elim (eqb_tells (operators ts + 1) (operands ts)) [ inl p ↦ absurd (h (omega (arith, p.1, balance))) | inr p ↦ p.0 ] in
      rw (sym (flags-all flags ts e) ∙ all, other) refl

  -- where all flags are set and one plan is left, the tokens are the expression
  pub whole_tokens-whole : list_all (λ b. b) flags ≡ true → depth ≡ 1 → whole_tokens (length flags) last ts ≡ Ok ts
  whole_tokens-whole all h =
      let one : (operators ts + 1 == operands ts) ≡ true = elim (eqb_tells (operators ts + 1) (operands ts)) [ inl p ↦ p.0 | inr p ↦ absurd (p.1 (omega (arith, h, balance))) ] in
      rw (sym (flags-all flags ts e) ∙ all, one) refl
