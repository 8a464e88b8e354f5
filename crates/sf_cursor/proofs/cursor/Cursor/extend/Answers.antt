use Rattle.std.proofs.Common.{◌≡◌, ◌∙◌, arith, true}
use Rattle.sf_cursor.proofs.Common.{behind, pending, root, beyond, waiting}
use Rattle.std.proofs.lemmas.Result.{IfOk-weaker}
use Rattle.sf_cursor.proofs.Ways.{first-can, extended-first, extended-none, farther}
use Rattle.sf_cursor.proofs.cursor.Cursor.extend.Goals as goal

pub returns-in_default-clause-next : goal.returns-in_default-clause-next
returns-in_default-clause-next g c =
    let design = c.args.design.now in
    let node = c.args.self.now.node in
    let none = extended-none design c.args.floor node c.in_default.ensures in
    IfOk-weaker c.advance.result
    (λ more. waiting design c.args.floor more c.advance.new.self.node ≡ beyond c.args.floor (root design) node.steps) _
    (λ more e. e ∙ none)
    c.advance.ensures.next

pub enter-requires-clause-can : goal.enter-requires-clause-can
enter-requires-clause-can g c = first-can c.args.self.now.node c.in-Some.step c.in-Some.ensures

pub returns-clause-next : goal.returns-clause-next
returns-clause-next g c = extended-first c.args.design.now c.args.floor c.args.self.now.node c.enter.new.self.node c.in-Some.step c.requires.at.sub c.requires.above c.in-Some.ensures c.in_ok-enter.ensures.node

pub returns-clause-above : goal.returns-clause-above
returns-clause-above g c = λ e. farther c.args.floor c.args.self.now.node c.enter.new.self.node c.in-Some.step c.requires.above c.in_ok-enter.ensures.node

pub returns-in_default-clause-whole : goal.returns-in_default-clause-whole
returns-in_default-clause-whole g c =
    let design = c.args.design.now in
    let node = c.args.self.now.node in
    let none = extended-none design 0 node c.in_default.ensures in
    IfOk-weaker c.advance.result
    (λ more. more ≡ true → pending design true c.advance.new.self.node ≡ behind (root design) node.steps) _
    (λ more e yes. e yes ∙ none)
    c.advance.ensures.whole

pub returns-clause-whole : goal.returns-clause-whole
returns-clause-whole g c = λ e. extended-first c.args.design.now 0 c.args.self.now.node c.enter.new.self.node c.in-Some.step c.requires.at.sub (omega arith) c.in-Some.ensures c.in_ok-enter.ensures.node
