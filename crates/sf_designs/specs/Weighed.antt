-- Parts, and a weight for each of their nets.
use Rattle.std.specs.Prelude.{ℕ, List, length, replicate}
use Rattle.sf_parts.specs.declared.raw.Parts.{Parts}
use Rattle.sf_designs.specs.declared.weighed.AdmittedParts.{AdmittedParts}
use Rattle.sf_designs.specs.declared.weighed.Weighed.{Weighed}

-- parts, and a weight for each of their nets
pub record WeighedParts : Type 0 where
  pub parts : Parts
  pub net_weights : List ℕ

-- what the code has of them
abbrev pub weighed_in : Weighed → WeighedParts
weighed_in w = record { parts = w.read.parts; net_weights = w.net_weights.items }

-- the same of admitted parts
abbrev pub admitted_in : AdmittedParts → WeighedParts
admitted_in a = weighed_in a.weighed

-- parts whose nets have the weight 1
abbrev pub alike : Parts → WeighedParts
alike parts = record { parts = parts; net_weights = replicate (length parts.nets) 1 }
