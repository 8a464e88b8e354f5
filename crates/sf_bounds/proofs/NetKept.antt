-- Rows and frames through changes of the list of cells.
use Rattle.std.proofs.Common.{◌≡◌, ℕ, ◌+◌, ◌<◌, ◌≤◌, List, [], ◌∷◌, ◌++◌, length, take, map, get_or, sym, ap, ◌∙◌, subst, inl, inr, arith, length-append, All}
use Rattle.sf_bounds.proofs.Common.{take-take, take-append-le, get_or-take, get_or_push, get_or_append_left, length_push, length-take-le, take_all, map-append, take-map, length-map, cases_lt, Design, Token, Item, items_at, IsNext, take-next, BlockRow, Cell, NetFrame, Wires, anywhere, weighed_nets, cell_at, IsFitCell, IsLonger, IsRow, AreWires, AreBlockRows, first_end, IsStart, IsNetFrame, AreStored, IsNetEnd, token_of, begins-same, items-same}
use Rattle.std.proofs.lemmas.List.Quantifiers.{all_pairs_push}
use Rattle.sf_polish.specs.declared.expr.Token.TheVariants as token
use Rattle.sf_frames.proofs.Keeping.{end-between, end-within}

-- a frame that stands for none
abbrev pub no_frame : NetFrame
no_frame = record { token = token.Beside; extent = record { least_w = 0; most_w = 0; least_h = 0; most_h = 0 }; below = 0; row = 0; wires = record { at = 0; sum = 0; hull = 0 }; end = 0 }

-- the cells before e are the same
abbrev AreSame : List Cell → List Cell → ℕ → Type 0
AreSame cells others e = (i : ℕ) → i < e → cell_at others i ≡ cell_at cells i

-- a row stays a row in cells that are the same up to its end
pub row-moves : (design : Design) (cells others : List Cell) (item : Item) (at e : ℕ) → IsRow design cells item at → at + length (weighed_nets design) ≤ e → e ≤ length others → AreSame cells others e → IsRow design others item at
row-moves design cells others item at e m within inside same = record {
  inside = omega (arith, within, inside);
  each = λ j lt. ap (λ c. c.reach) (same (at + j) (omega (arith, lt, within))) ∙ m.each j lt;
}

-- the wires stay wires in cells that are the same up to their end
wires-move : (design : Design) (cells others : List Cell) (items : List Item) (w : Wires) (e : ℕ) → AreWires design cells items w → w.at + length (weighed_nets design) ≤ e → e ≤ length others → AreSame cells others e → AreWires design others items w
wires-move design cells others items w e m within inside same = record {
  inside = omega (arith, within, inside);
  each = λ j lt. ap (λ c. c.part) (same (w.at + j) (omega (arith, lt, within))) ∙ m.each j lt;
  hulls = λ j lt. ap (λ c. c.hull) (same (w.at + j) (omega (arith, lt, within))) ∙ m.hulls j lt;
  total = m.total;
  hull_total = m.hull_total;
}

-- a frame stays a frame in cells that are the same up to its end
frame-moves : (design : Design) (tokens : List Token) (cells others : List Cell) (first k e : ℕ) (f : NetFrame) → IsNetFrame design tokens cells first k f → f.end ≤ e → e ≤ length others → AreSame cells others e → IsNetFrame design tokens others first k f
frame-moves design tokens cells others first k e f m within inside same = record {
  item = m.item;
  top = m.top;
  fewer = m.fewer;
  extent = m.extent;
  row = row-moves design cells others m.item f.row e m.row (omega (arith, m.row_end, within)) inside same;
  wires = wires-move design cells others (items_at tokens k) f.wires e m.wires (omega (arith, m.wires_end, within)) inside same;
  row_end = m.row_end;
  wires_end = m.wires_end;
  after = m.after;
  end = omega (arith, within, inside);
}

-- what holds before any token stays so in cells that are the same as far as they stand before the first frame
start-moves : (design : Design) (cells others : List Cell) (blocks : List BlockRow) (start : Wires) (e : ℕ) → IsStart design cells blocks start → first_end design start ≤ e → e ≤ length others → AreSame cells others e → take start.at others ≡ take start.at cells → IsStart design others blocks start
start-moves design cells others blocks start e m within inside same firsts = record {
  rows = subst (λ v. AreBlockRows design (length design.blocks) v blocks) (sym firsts) m.rows;
  pads = λ j lt. ap (λ c. c.reach) (same (start.at + j) (omega (arith, lt, within))) ∙ m.pads j lt;
  wires = wires-move design cells others [] start e m.wires within inside same;
}

-- more cells at the end
pub stored-appended : (design : Design) (tokens : List Token) (cells more : List Cell) (blocks : List BlockRow) (start : Wires) (frames : List NetFrame) → AreStored design tokens cells blocks start frames → All IsFitCell (cells ++ more) → AreStored design tokens (cells ++ more) blocks start frames
stored-appended design tokens cells more blocks start frames m fit =
    let n = length cells in
    let inside : n ≤ length (cells ++ more) = omega (arith, length-append cells more) in
    let same : AreSame cells (cells ++ more) n = λ i lt. get_or_append_left cells more (record { reach = anywhere; part = 0; hull = 0 }) i lt in
    record {
      fit = fit;
      start_is = start-moves design cells (cells ++ more) blocks start n m.start_is m.start_is.wires.inside inside same (take-append-le start.at cells more (omega (arith, m.start_is.wires.inside)));
      frames_are = record {
        few = m.frames_are.few;
        are = m.frames_are.are;
        each = λ k d lt. frame-moves design tokens cells (cells ++ more) (first_end design start) (k + 1) n (get_or frames k d) (m.frames_are.each k d lt) (m.frames_are.each k d lt).end inside same;
        ends = m.frames_are.ends;
      };
    }

-- what is kept of a path is kept in a longer list of cells
pub stored-longer : (design : Design) (tokens : List Token) (cells all : List Cell) (blocks : List BlockRow) (start : Wires) (frames : List NetFrame) → AreStored design tokens cells blocks start frames → All IsFitCell all → IsLonger cells all → AreStored design tokens all blocks start frames
stored-longer design tokens cells all blocks start frames m fit longer =
    subst (λ v. AreStored design tokens v blocks start frames) (sym longer.1) (stored-appended design tokens cells longer.0 blocks start frames m (subst (All IsFitCell) longer.1 fit))

-- if all cells fit, the first ones do
all-take : (e : ℕ) (cells : List Cell) → e ≤ length cells → All IsFitCell cells → All IsFitCell (take e cells)
all-take e cells le h i d lt =
    let n : i < e = omega (arith, lt, length-take-le e cells le) in
    subst IsFitCell (sym (get_or-take e cells i d n)) (h i d (omega (arith, n, le)))

module _ (design : Design) (tokens : List Token) (cells : List Cell) (blocks : List BlockRow) (start : Wires) (frames : List NetFrame) (count e : ℕ) (m : AreStored design tokens cells blocks start frames) (le : count ≤ length frames) (at_end : IsNetEnd design start frames count e) where
  -- the end lies among the cells, and after what the start needs
  end-there : NetFrame → (first_end design start ≤ e) × (e ≤ length cells)
  end-there =
      end-between NetFrame (λ f. f.end) frames count e le at_end.last (first_end design start) (length cells) at_end.none m.start_is.wires.inside
      (λ k d lt. let f = m.frames_are.each k d lt in (f.after, f.end))

  -- each of the first frames ends within the end
  within-end : (k : ℕ) (d : NetFrame) → k < count → (get_or frames k d).end ≤ e
  within-end = end-within NetFrame (λ f. f.end) frames count e le at_end.last m.frames_are.ends

  -- the first frames with the cells that they need
  pub stored-cut : (d : NetFrame) → AreStored design tokens (take e cells) blocks start (take count frames)
  stored-cut a =
      let n : length (take count frames) ≡ count = length-take-le count frames le in
      let t = end-there a in
      let inside : e ≤ length (take e cells) = omega (arith, length-take-le e cells t.1) in
      let same : AreSame cells (take e cells) e = λ i lt. get_or-take e cells i (record { reach = anywhere; part = 0; hull = 0 }) lt in
      record {
        fit = all-take e cells t.1 m.fit;
        start_is = start-moves design cells (take e cells) blocks start e m.start_is t.0 inside same (take-take start.at e cells (omega (arith, t.0)));
        frames_are = record {
          few = omega (arith, n, le, m.frames_are.few);
          are = sym (take-map token_of count frames) ∙ ap (take count) m.frames_are.are ∙ take-take count (length frames) tokens le ∙ ap (λ (v : ℕ). take v tokens) (sym n);
          each = λ k d lt. (let lk : k < count = omega (arith, lt, n) in
              subst (IsNetFrame design tokens (take e cells) (first_end design start) (k + 1)) (sym (get_or-take count frames k d lk))
              (frame-moves design tokens cells (take e cells) (first_end design start) (k + 1) e (get_or frames k d) (m.frames_are.each k d (omega (arith, lk, le))) (within-end k d lk) inside same));
          ends = λ i j d lij lj. (let ln : j < count = omega (arith, lj, n) in
              omega (arith, ap (λ f. f.end) (get_or-take count frames i d (omega (arith, lij, ln))), ap (λ f. f.end) (get_or-take count frames j d ln), m.frames_are.ends i j d lij (omega (arith, ln, le))));
        };
      }

-- one frame more
pub frame-pushed : (design : Design) (tokens : List Token) (cells : List Cell) (blocks : List BlockRow) (start : Wires) (frames : List NetFrame) (f : NetFrame) → AreStored design tokens cells blocks start frames → IsNext tokens (length frames) f.token → IsNetFrame design tokens cells (first_end design start) (length frames + 1) f → f.end ≡ length cells → AreStored design tokens cells blocks start (frames ++ f ∷ [])
frame-pushed design tokens cells blocks start frames f m next is last =
    let n = length_push frames f in
    record {
      fit = m.fit;
      start_is = m.start_is;
      frames_are = record {
        few = omega (arith, n, next.more);
        are = map-append token_of frames (f ∷ []) ∙ ap (λ v. v ++ f.token ∷ []) m.frames_are.are ∙ sym (take-next tokens (length frames) f.token next) ∙ ap (λ (v : ℕ). take v tokens) (sym n);
        each = λ k d lt. elim (cases_lt k (length frames)) [
          | inl before ↦ subst (IsNetFrame design tokens cells (first_end design start) (k + 1)) (sym (get_or_append_left frames (f ∷ []) d k before)) (m.frames_are.each k d before)
          | inr here ↦ (let same : length frames ≡ k = omega (arith, n, lt) in
              subst (λ (v : ℕ). IsNetFrame design tokens cells (first_end design start) (v + 1) (get_or (frames ++ f ∷ []) k d)) same
              (subst (IsNetFrame design tokens cells (first_end design start) (length frames + 1)) (sym (get_or_push frames f d k same)) is))
        ];
        ends = all_pairs_push (λ f g. f.end ≤ g.end) frames f m.frames_are.ends (λ k d lt. omega (arith, last, (m.frames_are.each k d lt).end));
      };
    }

-- tokens that begin in the same way
module _ (design : Design) (a b : List Token) (n : ℕ) (same : take n a ≡ take n b) where
  -- a frame of the one list of tokens is one of the other
  frame-switched : (cells : List Cell) (first k : ℕ) (f : NetFrame) → k ≤ n → IsNetFrame design a cells first k f → IsNetFrame design b cells first k f
  frame-switched cells first k f le m = record {
    item = m.item;
    top = sym (items-same a b n same k le) ∙ m.top ∙ ap (λ v. m.item ∷ v) (items-same a b n same f.below (omega (arith, m.fewer)));
    fewer = m.fewer;
    extent = m.extent;
    row = m.row;
    wires = subst (λ v. AreWires design cells v f.wires) (items-same a b n same k le) m.wires;
    row_end = m.row_end;
    wires_end = m.wires_end;
    after = m.after;
    end = m.end;
  }

  -- what is kept of the one path is what is kept of the other, as far as both are the same
  stored-switched : (cells : List Cell) (blocks : List BlockRow) (start : Wires) (frames : List NetFrame) → length frames ≤ n → length frames ≤ length b → AreStored design a cells blocks start frames → AreStored design b cells blocks start frames
  stored-switched cells blocks start frames le few m = record {
    fit = m.fit;
    start_is = m.start_is;
    frames_are = record {
      few = few;
      are = m.frames_are.are ∙ begins-same a b n same (length frames) le;
      each = λ k d lt. frame-switched cells (first_end design start) (k + 1) (get_or frames k d) (omega arith) (m.frames_are.each k d lt);
      ends = m.frames_are.ends;
    };
  }

-- the frames are those of their own tokens
pub stored-own : (design : Design) (tokens : List Token) (cells : List Cell) (blocks : List BlockRow) (start : Wires) (frames : List NetFrame) → AreStored design tokens cells blocks start frames → AreStored design (map token_of frames) cells blocks start frames
stored-own design tokens cells blocks start frames m =
    let n = length-map frames token_of in
    stored-switched design tokens (map token_of frames) (length frames)
    (sym m.frames_are.are ∙ sym (take_all (length frames) (map token_of frames) (omega (arith, n))))
    cells blocks start frames (omega arith) (omega (arith, n)) m

-- what is kept of a path for another that begins with the same tokens
pub stored-back : (design : Design) (tokens : List Token) (cells rest : List Cell) (blocks : List BlockRow) (start : Wires) (frames first : List NetFrame) (count e : ℕ) (d : NetFrame) → AreStored design (map token_of frames) cells blocks start frames → count ≤ length frames → count ≤ length tokens → take count (map token_of frames) ≡ take count tokens → IsNetEnd design start frames count e → rest ≡ take e cells → first ≡ take count frames → AreStored design tokens rest blocks start first
stored-back design tokens cells rest blocks start frames first count e d m le few same at_end r f =
    let n : length first ≡ count = ap length f ∙ length-take-le count frames le in
    stored-switched design (map token_of frames) tokens count same rest blocks start first (omega (arith, n)) (omega (arith, n, few))
    (subst (λ v. AreStored design (map token_of frames) v blocks start first) (sym r)
    (subst (AreStored design (map token_of frames) (take e cells) blocks start) (sym f)
    (stored-cut design (map token_of frames) cells blocks start frames count e m le at_end d)))
