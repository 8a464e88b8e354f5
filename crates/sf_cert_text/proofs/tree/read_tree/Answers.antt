use Rattle.std.proofs.Common.{ap, sym, ◌∙◌, ◌∷◌}
use Rattle.sf_cert_text.proofs.Common.{None, [], numbered_words, last_line_of, first_place, tags_said, tree_read, read_on}
use Rattle.sf_cert_text.proofs.TreeReads.{reading-done, read-spells}
use Rattle.sf_cert_text.proofs.tree.read_tree.Goals as goal

pub returns-clause-tree : goal.returns-clause-tree
returns-clause-tree c =
    let last = last_line_of c.args.text.now in
    let whole = numbered_words c.args.scan.now in
    read-spells c.args.blocks last (tags_said c.args.version last None whole) (first_place ∷ []) c.loop-word.tags.items
    (reading-done c.args.blocks last (tree_read c.args.version c.args.blocks last whole) c.loop-word.tags.items c.loop-word.reader (numbered_words c.loop-word.scan)
    c.loop-word.invariant c.in_default.ensures.numbered (ap (λ n. read_on c.args.blocks n c.loop-word.reader []) (sym c.last_line.ensures) ∙ c.in_ok-finish.ensures.ok c.args.blocks))
