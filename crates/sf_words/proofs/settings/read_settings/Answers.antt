use Rattle.std.proofs.Common.{◌≡◌, ◌<◌, arith, ◌∷◌, [], ◌++◌, sym, ap, ◌∙◌, map, string_bytes, length, IsTrue, Contains}
use Rattle.sf_words.proofs.Common.{map-append, nil_from_length, keys_of, IsNew, key_of, token_of}
use Rattle.sf_words.proofs.Tokens.{ahead, no_more, not_twice, ahead-push, ahead-nil, AreOptions-push, some_of_map}
use Rattle.sf_words.proofs.settings.read_settings.Goals as goal

pub returns-in_default-clause-none : goal.returns-in_default-clause-none
returns-in_default-clause-none c us options e =
    let some : 0 < length c.loop-keys.rest.now = grind arith in
    no_more c.args.mode (map token_of c.loop-keys.settings.items) (map string_bytes c.loop-keys.rest.now) c.loop-keys.invariant.0 (some_of_map string_bytes c.loop-keys.rest.now some)
    (λ t more inside shaped h. c.in_default.ensures.none t more (rw c.keys-keys.ensures inside) shaped h)
    us options (sym c.loop-keys.invariant.1 ∙ e)

pub returns-then-not-is_new-clause-none : goal.returns-then-not-is_new-clause-none
returns-then-not-is_new-clause-none c us options e =
    let setting = c.in-Some.ensures.setting in
    not_twice c.args.mode (map token_of c.loop-keys.settings.items) (token_of c.in-Some.setting) (map string_bytes c.loop-keys.rest.now) (map string_bytes c.in-Some.after.now)
    c.loop-keys.invariant.0 setting.1 setting.2
    (λ n. let up : IsTrue c.is_new.result = c.is_new.ensures.1 (rw (c.key.ensures, c.deref.ensures.value) n) in let no = c.if-not-is_new.true in cc)
    us options (sym c.loop-keys.invariant.1 ∙ e)

pub loop-keys-preserved : goal.loop-keys-preserved
loop-keys-preserved c =
    let setting = c.in-Some.ensures.setting in
    let fresh = c.is_new.ensures.0 (grind arith) in
    let fresh_here : IsNew (key_of (token_of c.in-Some.setting)) (map token_of c.loop-keys.settings.items) = rw (c.key.ensures, c.deref.ensures.value) at fresh in
    let inside : Contains (keys_of c.args.mode) (key_of (token_of c.in-Some.setting)) = rw c.keys-keys.ensures at setting.0 in
    let items : map token_of c.push.new.self.items ≡ map token_of c.loop-keys.settings.items ++ token_of c.in-Some.setting ∷ [] = ap (map token_of) c.in_ok-push.ensures.items ∙ map-append token_of c.loop-keys.settings.items (c.in-Some.setting ∷ []) in (
      rw items (AreOptions-push c.args.mode (map token_of c.loop-keys.settings.items) (token_of c.in-Some.setting) c.loop-keys.invariant.0 inside setting.1 fresh_here),
      c.loop-keys.invariant.1 ∙ (ap (ahead (map token_of c.loop-keys.settings.items)) setting.2 ∙ rw items (sym (ahead-push (map token_of c.loop-keys.settings.items) (token_of c.in-Some.setting) (map string_bytes c.in-Some.after.now)))),
      c.keys-keys.ensures,
    )

pub returns-clause-settings : goal.returns-clause-settings
returns-clause-settings c =
    let none : length c.loop-keys.rest.now ≡ 0 = grind arith in (
      c.loop-keys.invariant.0,
      c.loop-keys.invariant.1 ∙ (ap (ahead (map token_of c.loop-keys.settings.items)) (ap (map string_bytes) (nil_from_length c.loop-keys.rest.now none)) ∙ ahead-nil (map token_of c.loop-keys.settings.items)),
    )
