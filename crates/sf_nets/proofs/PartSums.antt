-- The sums over the nets, by each part of the bound.
use Rattle.std.proofs.Common.{max, ◌≡◌, ℕ, ◌+◌, ◌*◌, ◌<◌, ◌≤◌, List, [], take, length, get_or, arith, ap, sym, subst, ◌∙◌, zip}
use Rattle.sf_nets.proofs.Common.{sum_by, sum_by_more, get_or_default, Design, Net, Range, Pair, Hull, Full, Parts, pins_by, WireParts, AreByPart, AreAtMost, lefts-count, lefts-most, Part}
use Rattle.std.proofs.lemmas.Slice.Zip.{get_or-zip, length-zip}
use Rattle.sf_nets.proofs.WeighedParts.{weighed_small}

-- the greatest of the parts is no greater than what none of them is above
pub parts-small : (w : WireParts) (range pair hull : ℕ) → range ≤ 2800000000 → pair ≤ 2800000000 → hull ≤ 2800000000 → w.range ≡ range → w.pair ≡ pair → w.hull ≡ hull → w.full ≡ max range (max pair hull) → AreAtMost 2800000000 w
parts-small w range pair hull a b c of_range of_pair of_hull of_full =
    record { range = omega (arith, a, of_range); pair = omega (arith, b, of_pair); hull = omega (arith, c, of_hull); full = omega (arith, a, b, c, of_full) }

-- what a net takes by a part, as often as its weight says
abbrev pub of_net : Design → Parts → Part → Net → ℕ
of_net design node part net = net.weight * pins_by design node net.pins part

-- the sums over the first nets
pub record ArePartsBefore (design : Design) (node : Parts) (i : ℕ) (sums : WireParts) : Type 0 where
  pub values : AreByPart (λ part. sum_by (of_net design node part) (take i design.nets)) sums
  pub small : AreAtMost (714000000000 * i) sums

-- one of them
pub record IsSumBefore (design : Design) (node : Parts) (part : Part) (i sum : ℕ) : Type 0 where
  pub value : sum ≡ sum_by (of_net design node part) (take i design.nets)
  pub small : sum ≤ 714000000000 * i

-- what a net takes by a part, as often as paths leave of its weight
abbrev pub of_left : Design → Parts → Part → ℕ × Net → ℕ
of_left design node part n = n.0 * pins_by design node n.1.pins part

-- each net with what paths leave of its weight
abbrev pub lefts : Design → List (ℕ × Net)
lefts design = zip design.routes.left design.nets

-- the sum over the first nets by what is left of them
pub record IsRestBefore (design : Design) (node : Parts) (part : Part) (i rest : ℕ) : Type 0 where
  pub value : rest ≡ sum_by (of_left design node part) (take i (lefts design))
  pub small : rest ≤ 714000000000 * i

-- as many are left as there are nets
pub lefts-few : (design : Design) → length (lefts design) ≡ length design.nets
lefts-few design = omega (arith, length-zip design.routes.left design.nets, lefts-count design)

module _ (design : Design) (node : Parts) (i : ℕ) (net : Net) (lt : i < length design.nets) (at : net ≡ get_or design.nets i net) where
  -- the sum with one net more
  more : (part : Part) → sum_by (of_net design node part) (take (i + 1) design.nets) ≡ sum_by (of_net design node part) (take i design.nets) + of_net design node part net
  more part = sum_by_more (of_net design node part) design.nets i net lt ∙ ap (λ n. sum_by (of_net design node part) (take i design.nets) + of_net design node part n) (sym at)

  -- with one more net
  pub net-counts : (sums new parts : WireParts) → ArePartsBefore design node i sums → AreByPart (pins_by design node net.pins) parts → AreAtMost 2800000000 parts → net.weight < 256
      → new.range ≡ sums.range + net.weight * parts.range → new.pair ≡ sums.pair + net.weight * parts.pair → new.hull ≡ sums.hull + net.weight * parts.hull → new.full ≡ sums.full + net.weight * parts.full → ArePartsBefore design node (i + 1) new
  net-counts sums new parts before are small light range pair hull full =
      let times = λ (n : ℕ). net.weight * n in
      record {
        values = record {
          range = omega (arith, range, before.values.range, more Range, ap times are.range);
          pair = omega (arith, pair, before.values.pair, more Pair, ap times are.pair);
          hull = omega (arith, hull, before.values.hull, more Hull, ap times are.hull);
          full = omega (arith, full, before.values.full, more Full, ap times are.full);
        };
        small = record {
          range = omega (arith, range, before.small.range, weighed_small net.weight parts.range light small.range);
          pair = omega (arith, pair, before.small.pair, weighed_small net.weight parts.pair light small.pair);
          hull = omega (arith, hull, before.small.hull, weighed_small net.weight parts.hull light small.hull);
          full = omega (arith, full, before.small.full, weighed_small net.weight parts.full light small.full);
        };
      }

  -- one of them with one more net, and with a net of weight 0, which adds nothing
  pub net-adds : (part : Part) (sum wire : ℕ) → IsSumBefore design node part i sum → wire ≡ pins_by design node net.pins part → wire ≤ 2800000000 → net.weight < 256 → IsSumBefore design node part (i + 1) (sum + net.weight * wire)
  net-adds part sum wire before is small light = record {
    value = omega (arith, before.value, more part, ap (λ n. net.weight * n) is);
    small = omega (arith, before.small, weighed_small net.weight wire light small);
  }

  -- a net of weight 0 adds nothing to it
  pub none-adds : (part : Part) (sum : ℕ) → IsSumBefore design node part i sum → net.weight ≡ 0 → IsSumBefore design node part (i + 1) sum
  none-adds part sum before free = record {
    value = omega (arith, before.value, more part, ap (λ n. n * pins_by design node net.pins part) free);
    small = omega (arith, before.small);
  }

  -- a net of weight 0 adds nothing
  pub net-free : (sums : WireParts) → ArePartsBefore design node i sums → net.weight ≡ 0 → ArePartsBefore design node (i + 1) sums
  net-free sums before free =
      let none : (part : Part) → of_net design node part net ≡ 0 = λ part. omega (arith, ap (λ n. n * pins_by design node net.pins part) free) in
      record {
        values = record {
          range = omega (arith, before.values.range, more Range, none Range);
          pair = omega (arith, before.values.pair, more Pair, none Pair);
          hull = omega (arith, before.values.hull, more Hull, none Hull);
          full = omega (arith, before.values.full, more Full, none Full);
        };
        small = record {
          range = omega (arith, before.small.range);
          pair = omega (arith, before.small.pair);
          hull = omega (arith, before.small.hull);
          full = omega (arith, before.small.full);
        };
      }

  -- what is left of the net
  abbrev left : ℕ
  left = get_or design.routes.left i 0

  -- the sum by what is left, with one net more
  rest-more : (part : Part) → sum_by (of_left design node part) (take (i + 1) (lefts design)) ≡ sum_by (of_left design node part) (take i (lefts design)) + left * pins_by design node net.pins part
  rest-more part =
      let one = of_left design node part in
      let there : i < length design.routes.left = omega (arith, lt, lefts-count design) in
      let last : get_or (lefts design) i (0, net) ≡ (left, net) = get_or-zip design.routes.left design.nets i (0, net) there lt ∙ ap (λ (n : Net). (left, n)) (sym at) in
      sum_by_more one (lefts design) i (0, net) (omega (arith, lt, lefts-few design)) ∙ ap (λ n. sum_by one (take i (lefts design)) + one n) last

  -- as the loop has it
  pub rest-adds : (part : Part) (rest weight wire : ℕ) → IsRestBefore design node part i rest → weight ≡ left → wire ≡ pins_by design node net.pins part → wire ≤ 2800000000 → weight < 256 → IsRestBefore design node part (i + 1) (rest + weight * wire)
  rest-adds part rest weight wire before same is small light = record {
    value = omega (arith, before.value, rest-more part, ap (λ n. n * wire) same, ap (λ n. left * n) is);
    small = omega (arith, before.small, weighed_small weight wire light small);
  }

  -- of a net of weight 0 nothing is left
  pub rest-none : (part : Part) (rest : ℕ) → IsRestBefore design node part i rest → net.weight ≡ 0 → IsRestBefore design node part (i + 1) rest
  rest-none part rest before free =
      let most : left ≤ net.weight = subst (λ (n : Net). left ≤ n.weight) (sym (at ∙ get_or_default design.nets i net (record { pins = []; weight = 0 }) lt)) (lefts-most design i lt) in
      let none : left ≡ 0 = omega (arith, most, free) in
      record {
        value = omega (arith, before.value, rest-more part, ap (λ n. n * pins_by design node net.pins part) none);
        small = omega (arith, before.small);
      }
