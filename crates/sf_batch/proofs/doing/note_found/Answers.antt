use Rattle.std.proofs.Common.{◌<◌, arith, length, subst, Some}
use Rattle.sf_batch.proofs.Common.{ForSome, length-set, All-pop}
use Rattle.sf_batch.proofs.Tables.{IsFoundOf, found_all, found_one}
use Rattle.sf_batch.proofs.doing.note_found.Goals as goal

pub loop-found-init : goal.loop-found-init
loop-found-init c = (c.requires, λ held lines faults then given zip is. (is, found_all given c.args.all.items zip))

pub loop-found-preserved-in-Some-found : goal.loop-found-preserved-in-Some-found
loop-found-preserved-in-Some-found c =
    let f = c.in-Some-found.field-0 in
    let items = c.in-Some.ensures.items in
    let size = length-set c.loop-found.table f.number f.answer in (
      (λ k d b x e.
          let below = (All-pop (λ found. ForSome found (λ f. f.number < length c.loop-found.table)) c.loop-found.all.items c.pop.new.self.items (Some c.in-Some.found) items c.loop-found.invariant.0).0 k d b x e in
          omega (arith, below, size)),
      (λ held lines faults then given zip is.
          let h = c.loop-found.invariant.1 held lines faults then given zip is in
          let both = All-pop (IsFoundOf given) c.loop-found.all.items c.pop.new.self.items (Some c.in-Some.found) items h.1 in
          (found_one held lines faults then c.loop-found.table given f h.0 (subst (IsFoundOf given) c.in-Some-found.is both.1), both.0)),
    )

pub loop-found-preserved : goal.loop-found-preserved
loop-found-preserved c =
    let items = c.in-Some.ensures.items in (
      (All-pop (λ found. ForSome found (λ f. f.number < length c.loop-found.table)) c.loop-found.all.items c.pop.new.self.items (Some c.in-Some.found) items c.loop-found.invariant.0).0,
      (λ held lines faults then given zip is.
          let h = c.loop-found.invariant.1 held lines faults then given zip is in
          (h.0, (All-pop (IsFoundOf given) c.loop-found.all.items c.pop.new.self.items (Some c.in-Some.found) items h.1).0)),
    )

pub returns : goal.returns
returns c = λ held lines faults then given zip is. (c.loop-found.invariant.1 held lines faults then given zip is).0
