use Rattle.std.proofs.Common.{◌≡◌, sym, ap, ◌∙◌}
use Rattle.sf_names.proofs.Common.{bytes_of, index_of, noted}
use Rattle.sf_names.proofs.Indexes.{new_index, old_index, keys_noted}
use Rattle.sf_names.proofs.names.Names.note.Goals as goal

pub returns-then-added-clause-place : goal.returns-then-added-clause-place
returns-then-added-clause-place c =
    let keys = c.self.inside.set.keys in
    let names : bytes_of keys ≡ c.args.self.now = c.self.view_is ∙ c.in_ok-make_room.ensures in
    sym (new_index c.args.name keys c.in_ok-place.added c.in_ok-place.place c.in_ok-place.ensures.added c.if-added.true) ∙ ap (index_of c.args.name.now) names

pub returns-then-added-clause-names : goal.returns-then-added-clause-names
returns-then-added-clause-names c =
    let keys = c.self.inside.set.keys in
    let names : bytes_of keys ≡ c.args.self.now = c.self.view_is ∙ c.in_ok-make_room.ensures in
    keys_noted c.args.name keys c.insert_full.new.self.keys c.in_ok-place.ensures.keys ∙ ap (noted c.args.name.now) names

pub returns-clause-place : goal.returns-clause-place
returns-clause-place c =
    let keys = c.self.inside.set.keys in
    let names : bytes_of keys ≡ c.args.self.now = c.self.view_is ∙ c.in_ok-make_room.ensures in
    sym (old_index c.args.name keys c.in_ok-place.added c.in_ok-place.place c.in_ok-place.ensures.added c.if-added.false c.in_ok-place.ensures.index) ∙ ap (index_of c.args.name.now) names

pub returns-clause-names : goal.returns-clause-names
returns-clause-names c =
    let keys = c.self.inside.set.keys in
    let names : bytes_of keys ≡ c.args.self.now = c.self.view_is ∙ c.in_ok-make_room.ensures in
    keys_noted c.args.name keys c.insert_full.new.self.keys c.in_ok-place.ensures.keys ∙ ap (noted c.args.name.now) names
