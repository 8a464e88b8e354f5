-- The sums over groups of plans, and what becomes of them where two groups are joined.
use Rattle.std.specs.Prelude.{◌≡◌, ◌+◌, ◌-◌, ◌≤◌, max, List, map, sum, true, false, Option, Some, None, MatchOption, ⊤}
use Rattle.std.specs.List.{list_any}
use Rattle.sf_model.specs.Tree.{Tree, width, height}
use Rattle.sf_standard.specs.Standard.{area, least_of, greatest, has_none}
use Rattle.sf_frames.specs.declared.least.Least.{Least}
use Rattle.sf_frames.specs.declared.sums.Sums.{Sums}

-- the least values of these plans, of which there is one
pub record IsLeastFor (plans : List Tree) (l : Least) : Type 0 where
  pub some : has_none plans ≡ false
  pub area : l.area ≡ least_of area plans
  pub width : l.w ≡ least_of width plans
  pub height : l.h ≡ least_of height plans

-- these, or none where there is no plan
abbrev pub IsLeastOrNone : List Tree → Option Least → Type 0
IsLeastOrNone plans o = MatchOption o (has_none plans ≡ true) (IsLeastFor plans)

-- the sum of the least areas and the greatest least sides of groups each of which has a plan
pub record AreSums (groups : List (List Tree)) (s : Sums) : Type 0 where
  pub all : list_any has_none groups ≡ false
  pub total : s.area ≡ sum (map (least_of area) groups)
  pub wide : s.w ≡ greatest (map (least_of width) groups)
  pub high : s.h ≡ greatest (map (least_of height) groups)

-- these, or none where a group has no plan
abbrev pub AreSumsOrNone : List (List Tree) → Option Sums → Type 0
AreSumsOrNone groups o = MatchOption o (list_any has_none groups ≡ true) (AreSums groups)

-- the sums after two groups became one
abbrev pub joined : Option Sums → Option Least → Option Least → Option Least → Option Sums
joined None l r m = None
joined (Some s) None r m = None
joined (Some s) (Some l) None m = None
joined (Some s) (Some l) (Some r) None = None
joined (Some s) (Some l) (Some r) (Some m) = Some (record { area = s.area - (l.area + r.area) + m.area; w = max s.w m.w; h = max s.h m.h })

-- both areas are in the sum, and the new sum is a machine number
abbrev pub AreWithin : Option Sums → Option Least → Option Least → Option Least → Type 0
AreWithin None l r m = ⊤
AreWithin (Some s) None r m = ⊤
AreWithin (Some s) (Some l) None m = ⊤
AreWithin (Some s) (Some l) (Some r) None = ⊤
AreWithin (Some s) (Some l) (Some r) (Some m) = (l.area + r.area ≤ s.area) × (s.area ≤ 1099511627776000) × (m.area ≤ 1099511627776)
