use Rattle.std.proofs.Common.{◌≡◌, subst}
use Rattle.sf_program.proofs.Common.{block_count, text_of, IsSearched, budget_of}
use Rattle.sf_program.proofs.Told.{searched-answered}
use Rattle.sf_program.proofs.planning.search_design.Goals as goal

pub returns : goal.returns
returns g c =
    let design = c.args.design.now in
    let found = c.in_ok-found.found in
    let budget = budget_of c.args.nodes (block_count design) in
    let same : c.budget_of-nodes.result ≡ budget = cc (c.budget_of-nodes.ensures, c.from.ensures, c.block_count.ensures) in
    let searched = subst (λ n. IsSearched c.args.bounds design c.args.workers n c.args.start found.cert) same c.in_ok-found.ensures.searched in
    searched-answered c.args.bounds design c.args.names.scale c.args.names.cert.now (text_of c.args.names.pl) c.args.workers budget c.args.start found.cert searched c.tell_found.result c.tell_found.ensures
