-- Stages one after another.
use Rattle.std.proofs.Common.{inl, inr, ℕ, List, length, Option, Result, Ok, Err, refl, sym, subst, codes, arith, ◌∙◌}
use Rattle.sf_designs.proofs.Common.{IfErr, Contents, ShelfSeen, GsrcBlocks, GsrcNets, GsrcPlaces, nets_in, Stop, IsCounted, Reads, TellsNoLoad, Refusal, refused, lost, Then, Refuses, Stops, Ends, BlocksRead, GsrcRead, IfNamed, JoinedRead, NetsRead, PlacesRead, WeightsRead, WeighedParts, weighed_in, Refused, ReadFault, NoMemory}
use Rattle.sf_designs.specs.declared.weighed.Weighed.{Weighed}

-- what ends a call for one reason ends it for each reason that follows
pub stops-map : (P Q : Refusal → Type 0) → ((why : Refusal) → P why → Q why) → (stop : Stop) → Stops stop P → Stops stop Q
stops-map P Q f (Refused status line) h = (h.0, f (refused status line.items) h.1)
stops-map P Q f ReadFault h = f lost h
stops-map P Q f NoMemory h = tt

-- a call that stops for just this reason
pub refused-stops : (P : Refusal → Type 0) (why : Refusal) → P why → (stop : Stop) → Refuses stop why → Stops stop P
refused-stops P why p (Refused status line) h = (h.0, subst P (sym h.1) p)
refused-stops P why p ReadFault h = absurd h
refused-stops P why p NoMemory h = absurd h

-- what tells no failed load tells none that wasn't counted
pub uncounted : {X : Type 0} (result : Result X Stop) (faults faults_then : ℕ) → TellsNoLoad result → IfErr result (IsCounted faults faults_then)
uncounted (Ok x) faults faults_then h = tt
uncounted (Err (Refused status line)) faults faults_then h = tt
uncounted (Err ReadFault) faults faults_then h = absurd h
uncounted (Err NoMemory) faults faults_then h = tt

-- a stage that reads, and then another one
pub reads-then : (before between after : ShelfSeen) → Reads before between → Reads between after → Reads before after
reads-then before between after first second = record {
  unchanged = second.unchanged ∙ first.unchanged;
  later = omega (arith, first.later, second.later);
  no_store = second.no_store ∙ first.no_store;
}

module _ {X Y : Type 0} (P : Result X Refusal → Type 0) (Q : X → Result Y Refusal → Type 0) where
  -- the first stage ends the call
  pub then-stops : (stop : Stop) → Stops stop (λ why. P (Err why)) → Stops stop (λ why. Then P Q (Err why))
  then-stops = stops-map (λ why. P (Err why)) (λ why. Then P Q (Err why)) (λ why p. inr (why, p, refl))

  -- the other one goes on from its value
  pub then-ends : {A : Type 0} (seen : A → Y) (x : X) → P (Ok x) → (r : Result A Stop) → Ends seen r (Q x) → Ends seen r (Then P Q)
  then-ends seen x p (Ok a) h = inl (x, p, h)
  then-ends seen x p (Err stop) h = stops-map (λ why. Q x (Err why)) (λ why. Then P Q (Err why)) (λ why q. inl (x, p, q)) stop h

-- ---- GSRC files behind the blocks

-- the weights of the nets, and what follows
abbrev pub WeighedRead : Option Contents → Option (List ℕ) → GsrcBlocks → Option GsrcNets → Option GsrcPlaces → Result WeighedParts Refusal → Type 0
WeighedRead held weights blocks nets places = Then (WeightsRead held weights (length (nets_in nets))) (JoinedRead blocks nets places)

-- the places, and what follows
abbrev pub PlacedRead : Option Contents → ℕ → Option (List ℕ) → Option (List ℕ) → GsrcBlocks → Option GsrcNets → Result WeighedParts Refusal → Type 0
PlacedRead held scale pl weights blocks nets = Then (IfNamed (PlacesRead held (codes "pl") scale) pl) (WeighedRead held weights blocks nets)

-- the nets, and what follows
abbrev pub WiredRead : Option Contents → ℕ → Option (List ℕ) → Option (List ℕ) → Option (List ℕ) → GsrcBlocks → Result WeighedParts Refusal → Type 0
WiredRead held scale nets pl weights blocks = Then (IfNamed (NetsRead held) nets) (PlacedRead held scale pl weights blocks)

module _ (held : Option Contents) (scale : ℕ) (name : List ℕ) (nets_name pl weights : Option (List ℕ)) (r : Result Weighed Stop) (blocks : GsrcBlocks) (said : BlocksRead held scale name (Ok blocks)) where
  -- what ends a call behind the blocks ends the whole of it
  pub behind-blocks : Ends weighed_in r (WiredRead held scale nets_name pl weights blocks) → Ends weighed_in r (GsrcRead held scale name nets_name pl weights)
  behind-blocks = then-ends (BlocksRead held scale name) (WiredRead held scale nets_name pl weights) weighed_in blocks said r

  -- and behind the nets
  pub behind-nets : (nets : Option GsrcNets) → IfNamed (NetsRead held) nets_name (Ok nets) → Ends weighed_in r (PlacedRead held scale pl weights blocks nets) → Ends weighed_in r (GsrcRead held scale name nets_name pl weights)
  behind-nets nets wired h = behind-blocks (then-ends (IfNamed (NetsRead held) nets_name) (PlacedRead held scale pl weights blocks) weighed_in nets wired r h)

  -- and behind the places
  pub behind-places : (nets : Option GsrcNets) → IfNamed (NetsRead held) nets_name (Ok nets) → (places : Option GsrcPlaces) → IfNamed (PlacesRead held (codes "pl") scale) pl (Ok places)
      → Ends weighed_in r (WeighedRead held weights blocks nets places) → Ends weighed_in r (GsrcRead held scale name nets_name pl weights)
  behind-places nets wired places placed h =
      behind-nets nets wired (then-ends (IfNamed (PlacesRead held (codes "pl") scale) pl) (WeighedRead held weights blocks nets) weighed_in places placed r h)
