use Rattle.std.proofs.Common.{◌≡◌, get_or, arith, ◌∙◌}
use Rattle.sf_subsets.proofs.Common.{curve_at, get_or_default}
use Rattle.sf_subsets.proofs.Added.{far-pair}
use Rattle.sf_subsets.proofs.table.gather_near.Goals as goal

pub returns-then-index-limit : goal.returns-then-index-limit
returns-then-index-limit c =
    let a = c.args in
    let curves = a.table.now.curves.items in
    let floors = a.table.now.floors.items in
    let first : c.index.result.now ≡ get_or floors a.first 0 = c.index.ensures ∙ get_or_default floors a.first c.index.result.now 0 (omega (arith, c.requires.first, c.requires.floors.count)) in
    let second : c.index-2.result.now ≡ get_or floors a.second 0 = c.index-2.ensures ∙ get_or_default floors a.second c.index-2.result.now 0 (omega (arith, c.requires.second, c.requires.floors.count)) in
    far-pair a.outline a.limit (get_or floors a.first 0) (get_or floors a.second 0) (curve_at curves a.first) (curve_at curves a.second) a.found.now.items
    (c.requires.floors.floors a.first c.requires.first) (c.requires.floors.floors a.second c.requires.second)
    (omega (arith, c.if-index-limit.true, first, second))
