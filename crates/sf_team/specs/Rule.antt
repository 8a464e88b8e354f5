-- The rule of the channel: each message in it, and each that any pass took, is one that the caller's pass sent. No other
-- pass sends.
use Rattle.std.specs.Prelude.{◌≡◌, ℕ, Bool, true, List, Contains}
use mathlib.Core.Option.{some}
use lib.ListN.{get_elem?}
use Rattle.sf_team.specs.declared.message.Message.{Message}
use Rattle.sf_team.specs.declared.rule.Hand.{Hand}
use Rattle.sf_team.specs.Answers.{IsMessageOf}

module _ {J : Type 0} where
  -- a pass that may send or not, with what it sent and took
  abbrev pub hand : Bool → List (Message J) → List (Message J) → Hand J
  hand sends sent taken = record { sends = sends; sent = sent; taken = taken }

  -- each of the first messages is one of the second
  abbrev pub AreAmong : List (Message J) → List (Message J) → Type 0
  AreAmong xs ys = (x : Message J) → Contains xs x → Contains ys x

  -- who sends is the caller, and what a pass took was sent
  pub record Fits (caller : ℕ) (sent : List (Message J)) (pass : ℕ) (v : Hand J) : Type 0 where
    pub sends : v.sends ≡ true → (pass ≡ caller) × (v.sent ≡ sent)
    pub took : AreAmong v.taken sent

  -- one pass sends
  pub record OneSends (items : List (Message J)) (views : List (Hand J)) : Type 0 where
    pub caller : ℕ
    pub sent : List (Message J)
    pub held : AreAmong items sent
    pub fits : (pass : ℕ) (v : Hand J) → get_elem? views pass ≡ some v → Fits caller sent pass v

  -- the pass of the caller, which sent these jobs and stop marks alone
  pub record IsCaller (jobs : List J) (v : Hand J) : Type 0 where
    pub sends : v.sends ≡ true
    pub sent : (x : Message J) → Contains v.sent x → IsMessageOf jobs x
