use Rattle.std.proofs.Common.{◌≡◌, ◌++◌, sym, subst, arith, true}
use Rattle.sf_cursor.proofs.Common.{behind, pending, root, Left, beyond, waiting}
use Rattle.sf_certificate.specs.Marks.{made}
use Rattle.sf_cursor.proofs.Ways.{split-first, farther}
use Rattle.sf_cursor.proofs.cursor.Cursor.follow_to.Goals as goal

pub returns-in_ok-enter-in-Split-clause-next : goal.returns-in_ok-enter-in-Split-clause-next
returns-in_ok-enter-in-Split-clause-next g c =
    let design = c.args.design.now in
    let node = c.args.self.now.node in
    subst (λ t. waiting design c.args.floor true c.enter.new.self.node ≡ made t node ++ beyond c.args.floor (root design) node.steps) (sym c.in-Split.is)
    (split-first design c.args.floor node c.enter.new.self.node c.in-Split.block c.requires.at.sub c.requires.above c.in_ok-enter-in-Split.ensures.node)

pub returns-in_ok-enter-in-Split-clause-above : goal.returns-in_ok-enter-in-Split-clause-above
returns-in_ok-enter-in-Split-clause-above g c = λ e. farther c.args.floor c.args.self.now.node c.enter.new.self.node (Left c.in-Split.block) c.requires.above c.in_ok-enter-in-Split.ensures.node

pub returns-in_ok-enter-in-Split-clause-whole : goal.returns-in_ok-enter-in-Split-clause-whole
returns-in_ok-enter-in-Split-clause-whole g c = λ e.
    let design = c.args.design.now in
    let node = c.args.self.now.node in
    subst (λ t. pending design true c.enter.new.self.node ≡ made t node ++ behind (root design) node.steps) (sym c.in-Split.is)
    (split-first design 0 node c.enter.new.self.node c.in-Split.block c.requires.at.sub (omega arith) c.in_ok-enter-in-Split.ensures.node)
