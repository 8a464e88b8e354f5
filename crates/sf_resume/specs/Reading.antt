-- A certificate's tags, read one after another.
use Rattle.std.specs.Prelude.{◌≡◌, ℕ, ◌+◌, List, [], ◌∷◌, ◌++◌, length, map, take, drop}
use Rattle.sf_model.specs.declared.design.Design.{Design}
use Rattle.sf_node.specs.Parts.{Parts}
use Rattle.sf_node.specs.Subproblem.{root}
use Rattle.sf_node.specs.Later.{pending}
use Rattle.sf_certificate.specs.declared.tag.Tag.{Tag}
use Rattle.sf_certificate.specs.declared.tag.Tag.TheVariants.{Open}
use Rattle.sf_certificate.specs.Marks.{waiting_after}
use Rattle.sf_certificate.specs.Valid.{AreTrees}
use Rattle.sf_cursor.specs.Path.{IsPath}
use Rattle.sf_resume.specs.declared.reading.Reading.{Reading}

-- the tags spell a tree for each of the subproblems, whatever closes them
abbrev pub AreTreesOf : List Parts → List Tag → Type 0
AreTreesOf nodes tags = AreTrees (λ node part. 0) 0 nodes tags

-- the tags spell one tree from the root
abbrev pub AreSomeTree : Design → List Tag → Type 0
AreSomeTree design tags = AreTreesOf (root design ∷ []) tags

-- so many tags are read: what waits after them is pending where the walk stands, and the others are the trees of it
pub record IsReading (design : Design) (bound : Parts → ℕ) (tags : List Tag) (r : Reading) : Type 0 where
  pub way : IsPath design bound r.cursor
  pub waiting : waiting_after (root design ∷ []) (take r.at tags) ≡ pending design r.more r.cursor.node
  pub trees : AreTreesOf (pending design r.more r.cursor.node) (drop r.at tags)

-- an open tag for each of the subproblems
abbrev pub opens : List Parts → List Tag
opens nodes = map (λ node. Open) nodes

-- these tags were read
pub record IsReadOn (design : Design) (bound : Parts → ℕ) (tags : List Tag) (old : Reading) (run : List Tag) (new : Reading) : Type 0 where
  pub reading : IsReading design bound tags new
  pub on : take new.at tags ≡ take old.at tags ++ run
  pub rest : drop old.at tags ≡ run ++ drop new.at tags
  pub many : new.at ≡ old.at + length run
