-- What was found of a design with paths is found of the design without them.
use Rattle.std.proofs.Common.{◌≡◌, ℕ, zero, suc, ◌+◌, ◌*◌, ◌≤◌, Bool, List, [], ◌∷◌, length, map, Option, Some, None, refl, ap, sym, subst, ◌∙◌, MatchOption, sum_by, ◌==◌, ◌&&◌, ◌||◌, not, if◌then◌else◌}
use Rattle.sf_program.proofs.Common.{Block, Design, Expr, IsFloor, Status, Done, NoneFits, Usage, Open, No, BadInput, OverLimit, ReadFault, WriteFault, NoMemory, root, spots_of, list_all, Paths, Fits, HasPaths, Tree, branches, full, full_below, is_complete, is_solved, is_wide, Cert, left_open, Report, full_open, IsEnd, IsFinding, IsPlanOf}
use Rattle.sf_model.specs.declared.parts.Outline.{Outline}
use Rattle.sf_model.specs.declared.parts.Weights.{Weights}
use Rattle.sf_model.proofs.Floored.{cost-of, legal-routed, wire-same}
use Rattle.sf_node.specs.Parts.{Parts}
use Rattle.sf_standard.proofs.Unmoved.{sum_by-same}

-- how many subproblems there are at and below one
abbrev full_of : Design → Parts → ℕ
full_of design node = full_below design (2 * length design.blocks + sum_by (λ (b : Block). length b.shapes) design.blocks) node

module _ (d e : Design) (weights : e.weights ≡ d.weights) where
  -- the same subproblems are solved
  solved-same : (node : Parts) → is_solved e node ≡ is_solved d node
  solved-same node = ap (λ (w : Weights). is_complete node && (w.wire == 0 || list_all (λ span. not (is_wide span)) node.spans)) weights

  -- and below them are as many
  below-same : (depth : ℕ) (node : Parts) → full_below e depth node ≡ full_below d depth node
  below-same zero node = refl
  below-same (suc depth) node =
      ap (λ (b : Bool). if b then 1 else (1 + sum_by (full_below e depth) (branches node))) (solved-same node)
      ∙ ap (λ n. if is_solved d node then 1 else (1 + n)) (sum_by-same (full_below e depth) (full_below d depth) (below-same depth) (branches node))

module _ (design : Design) (paths : Paths) (routed : Design) (h : HasPaths design paths routed) where
  -- the root is the same
  root-same : root routed ≡ root design
  root-same = ap (λ (bs : List Block). record { steps = []; tokens = []; spans = map (λ (b : Block). (0, length b.shapes)) bs }) h.blocks

  -- so are as many subproblems
  pub full-same : full routed ≡ full design
  full-same =
      let depth : List Block → ℕ = λ bs. 2 * length bs + sum_by (λ (b : Block). length b.shapes) bs in
      below-same design routed h.weights (depth routed.blocks) (root routed)
      ∙ ap (λ (bs : List Block). full_below design (depth bs) (root routed)) h.blocks
      ∙ ap (full_below design (depth design.blocks)) root-same

  -- at and below any of them
  of-same : (node : Parts) → full_of routed node ≡ full_of design node
  of-same node =
      let depth : List Block → ℕ = λ bs. 2 * length bs + sum_by (λ (b : Block). length b.shapes) bs in
      below-same design routed h.weights (depth routed.blocks) node ∙ ap (λ (bs : List Block). full_below design (depth bs) node) h.blocks

  -- and those that a certificate leaves open
  pub open-same : (cert : Cert) → full_open routed cert ≡ full_open design cert
  open-same cert =
      sum_by-same (full_of routed) (full_of design) of-same (left_open (root routed ∷ []) cert.tags)
      ∙ ap (λ (node : Parts). sum_by (full_of design) (left_open (node ∷ []) cert.tags)) root-same

  -- what fits is the same
  fits-back : (tree : Tree) → Fits routed.outline tree → Fits design.outline tree
  fits-back tree = subst (λ (o : Outline). Fits o tree) h.outline

  fits-on : (tree : Tree) → Fits design.outline tree → Fits routed.outline tree
  fits-on tree = subst (λ (o : Outline). Fits o tree) (sym h.outline)

  -- a plan of the one is a plan of the other
  plan-back : (report : Report) (expr : Expr) → IsPlanOf routed report expr → IsPlanOf design report expr
  plan-back report expr p = record {
    tree = p.tree;
    spells = p.spells;
    legal = (legal-routed design paths routed p.tree h).1 p.legal;
    fits = fits-back p.tree p.fits;
    costs = sym (cost-of design routed p.tree h.pads h.nets h.weights) ∙ p.costs;
    size = p.size;
    area = p.area;
    wires = p.wires ∙ wire-same design routed h.pads (spots_of p.tree) h.nets;
  }

  -- also where there may be none
  plans-back : (report : Report) (z : ℕ) (plan : Option Expr) → MatchOption plan (report.cost ≡ z) (IsPlanOf routed report) → MatchOption plan (report.cost ≡ z) (IsPlanOf design report)
  plans-back report z None p = p
  plans-back report z (Some expr) p = plan-back report expr p

  -- what no plan undercuts is the same
  pub floor-back : (z : ℕ) → IsFloor routed z → IsFloor design z
  floor-back z floor tree legal fits =
      subst (λ n. z ≤ n) (cost-of design routed tree h.pads h.nets h.weights) (floor tree ((legal-routed design paths routed tree h).0 legal) (fits-on tree fits))

  -- so is how a search ended
  end-back : (budget all : ℕ) (report : Report) (status : Status) → IsEnd routed budget all report status → IsEnd design budget all report status
  end-back budget all report Done p = (p.0, p.1, floor-back report.cost p.2)
  end-back budget all report NoneFits p = (p.0, λ tree legal fits. p.1 tree ((legal-routed design paths routed tree h).0 legal) (fits-on tree fits))
  end-back budget all report Open p = p
  end-back budget all report Usage p = p
  end-back budget all report No p = p
  end-back budget all report BadInput p = p
  end-back budget all report OverLimit p = p
  end-back budget all report ReadFault p = p
  end-back budget all report WriteFault p = p
  end-back budget all report NoMemory p = p

  -- and all that was found
  pub finding-back : (budget all : ℕ) (status : Status) (report : Report) → IsFinding routed budget all status report → IsFinding design budget all status report
  finding-back budget all status report p = record {
    plan = plans-back report _ report.plan p.plan;
    floor = floor-back report.bound p.floor;
    few = p.few;
    end = end-back budget all report status p.end;
    begins = p.begins;
  }
