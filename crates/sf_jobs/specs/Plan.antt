-- The options that a job's words give, and when they give any.
use Rattle.std.specs.Prelude.{ℕ, false, [], Option, None}
use Rattle.std.specs.Option.{ForSome}
use Rattle.sf_options.specs.Options.{Text, PlanOptions, gsrc}
use Rattle.sf_words.specs.Words.{IsValue}
use Rattle.sf_options.specs.Defaults.{default_bounds, default_design, default_starts, default_workers, weights_by_wire}

-- the names may be values of options
pub record AreValues (blocks : Text) (nets pl : Option Text) : Type 0 where
  pub blocks_is : IsValue blocks
  pub nets_is : ForSome nets IsValue
  pub pl_is : ForSome pl IsValue

-- the names, the weight and the budget that are given, and the defaults of all else; there is no certificate
abbrev pub options_of : (blocks : Text) → (nets pl : Option Text) → (wire : ℕ) → (nodes : Option ℕ) → PlanOptions
options_of blocks nets pl wire nodes = record {
  design = default_design (gsrc blocks nets pl);
  weights = weights_by_wire wire;
  cert = [];
  pl_out = None;
  workers = default_workers;
  nodes = nodes;
  is_long = false;
  starts = default_starts;
  begin = None;
  bounds = default_bounds;
}
