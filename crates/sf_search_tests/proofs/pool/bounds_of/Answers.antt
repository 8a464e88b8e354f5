use Rattle.std.proofs.Common.{◌≡◌, length, arith, ap, ◌∙◌}
use Rattle.std.proofs.lemmas.Simd.{splat_is_map}
use Rattle.sf_search_tests.proofs.Common.{extended}
use Rattle.sf_search_core.specs.Conserved.{branched}
use Rattle.sf_search_core.specs.Events.{kind_of}
use Rattle.sf_search_tests.proofs.pool.bounds_of.Goals as goal

pub returns-in_ok-from_elem-in-Extend : goal.returns-in_ok-from_elem-in-Extend
returns-in_ok-from_elem-in-Extend c =
    let node = c.args.node.now in
    let nodes = branched (kind_of c.args.how) node in
    let is : nodes ≡ extended node = ap (λ how. branched (kind_of how) node) c.in-Extend.is in
    let many : length nodes ≡ c.len.result = omega (arith, ap length is, ap length c.in_ok-children-in-Extend.ensures, c.len.ensures) in
    c.from_vec.ensures ∙ c.in_ok-from_elem-in-Extend.ensures.items_if_clones_equal (λ y e. cc) ∙ splat_is_map nodes c.len.result 7 many
