-- What a text has come to, byte by byte.
use Rattle.sf_checker.proofs.Common.{take-suc, take-add, take-append-drop, take_all, length-drop, MatchOption, OnOk, ⊤, Design, MAX, block_count, Part, Parts, Cert, Tag, cert_read, with_tag, Answer, Opening, Tree, Fault, IsAnswer, Judged, IsFound, HoldsOneWay, IsBody, IsFaulty, IsReady, IsStage, IsWritable, no_plan, Body, IsAnswerTo, IsFed}
use Rattle.std.proofs.Common.{◌≡◌, ℕ, suc, ◌+◌, ◌-◌, ◌<◌, length, take, drop, get_or, arith, List, [], ◌∷◌, ◌++◌, refl, ap, sym, subst, ◌∙◌, append_assoc, append-nil, ◌==◌, Result, Ok, Err}
use Rattle.sf_cert_text.specs.declared.fault.CertFault.{CertFault}
use Rattle.sf_cert_text.specs.declared.header.Header.{Header}
use Rattle.sf_cert_text.specs.Bytes.{Bytewise, bytes_on, said_with}
use Rattle.sf_cert_text.specs.Reader.{with_tags}
use Rattle.sf_cert_text.proofs.TreeReads.{with_tags-more, with_tags-none}
use Rattle.sf_cert_text.proofs.CertSpells.{cert-spells}
use Rattle.sf_cursor.proofs.Ways.{one-way}
use Rattle.sf_checker.specs.declared.stage.Stage.{Stage}

module _ (design : Design) (bound : Parts → ℕ) (part : Parts → Part → ℕ) (text : List ℕ) where
  -- the header was read
  pub body-start : (n : ℕ) (header : Header) (reader : Bytewise) (judge : Judged) → n ≡ block_count design → no_plan header.plan ≡ (header.cost == MAX) → MatchOption header.plan ⊤ (IsWritable n)
      → ((rest : List ℕ) → cert_read n (text ++ rest) ≡ said_with n header (bytes_on n reader rest))
      → ((cert : Cert) → cert.plan ≡ header.plan → cert.cost ≡ header.cost → IsFound design bound part cert [] judge)
      → IsBody design bound part text (record { header = header; reader = reader; judge = judge })
  body-start n header reader judge is agrees writable reads found =
      record {
        agrees = agrees;
        writable = subst (λ k. MatchOption header.plan ⊤ (IsWritable k)) is writable;
        tags = [];
        reads = λ rest. subst (λ k. cert_read k (text ++ rest) ≡ said_with k header (with_tags [] (bytes_on k reader rest))) is
            (reads rest ∙ ap (said_with n header) (sym (with_tags-none (bytes_on n reader rest))));
        judged = λ cert more plan cost tags. found cert plan cost;
      }

  module _ (n : ℕ) (body : Body) (is : n ≡ block_count design) (b : IsBody design bound part text body) where
    -- bytes that end a tag
    pub body-tag : (bytes : List ℕ) (reader : Bytewise) (judge : Judged) (tag : Tag)
        → ((rest : List ℕ) → bytes_on n body.reader (bytes ++ rest) ≡ with_tag tag (bytes_on n reader rest))
        → ((cert : Cert) (tags more : List Tag) → cert.cost ≡ body.header.cost → cert.tags ≡ tags ++ tag ∷ more → IsFound design bound part cert tags body.judge → IsFound design bound part cert (tags ++ tag ∷ []) judge)
        → IsBody design bound part (text ++ bytes) (record { header = body.header; reader = reader; judge = judge })
    body-tag bytes reader judge tag reads found =
        let k = block_count design in
        record {
          agrees = b.agrees;
          writable = b.writable;
          tags = b.tags ++ tag ∷ [];
          reads = λ rest. ap (cert_read k) (append_assoc text bytes rest) ∙ b.reads (bytes ++ rest)
              ∙ ap (λ r. said_with k body.header (with_tags b.tags r)) (subst (λ k. bytes_on k body.reader (bytes ++ rest) ≡ with_tag tag (bytes_on k reader rest)) is (reads rest))
              ∙ ap (said_with k body.header) (with_tags-more b.tags tag (bytes_on k reader rest));
          judged = λ cert more plan cost tags.
              let all = tags ∙ append_assoc b.tags (tag ∷ []) more in
              found cert b.tags more cost all (b.judged cert (tag ∷ more) plan cost all);
        }

    -- bytes that end none
    pub body-none : (bytes : List ℕ) (reader : Bytewise) → ((rest : List ℕ) → bytes_on n body.reader (bytes ++ rest) ≡ bytes_on n reader rest)
        → IsBody design bound part (text ++ bytes) (record { header = body.header; reader = reader; judge = body.judge })
    body-none bytes reader reads =
        let k = block_count design in
        record {
          agrees = b.agrees;
          writable = b.writable;
          tags = b.tags;
          reads = λ rest. ap (cert_read k) (append_assoc text bytes rest) ∙ b.reads (bytes ++ rest)
              ∙ ap (λ r. said_with k body.header (with_tags b.tags r)) (subst (λ k. bytes_on k body.reader (bytes ++ rest) ≡ bytes_on k reader rest) is (reads rest));
          judged = b.judged;
        }

    -- bytes at fault
    pub body-fault : (bytes : List ℕ) (e : CertFault) → ((rest : List ℕ) → bytes_on n body.reader (bytes ++ rest) ≡ Err e) → IsFaulty design (text ++ bytes) e
    body-fault bytes e reads rest =
        let k = block_count design in
        ap (cert_read k) (append_assoc text bytes rest) ∙ b.reads (bytes ++ rest)
        ∙ ap (λ r. said_with k body.header (with_tags b.tags r)) (subst (λ k. bytes_on k body.reader (bytes ++ rest) ≡ Err e) is (reads rest))

    -- the text is a certificate of these tags
    ended : (all : List Tag) (answer : Answer) → cert_read (block_count design) text ≡ said_with (block_count design) body.header (Ok all)
        → ((cert : Cert) → cert.blocks ≡ block_count design → cert.plan ≡ body.header.plan → cert.cost ≡ body.header.cost → cert.bound ≡ body.header.bound → cert.tags ≡ all → IsAnswer design bound part cert answer)
        → IsAnswerTo design bound part text answer
    ended all answer reads answered =
        let k = block_count design in
        let cert : Cert = record {
          blocks = k;
          plan = body.header.plan;
          cost = body.header.cost;
          bound = body.header.bound;
          paths = body.header.paths;
          tags = all;
          form = record {
            some_block = design.limits.some_block;
            few_blocks = design.limits.few_blocks;
            planned = λ expr e. subst (λ p. MatchOption p ⊤ (IsWritable k)) e b.writable;
            unplanned = b.agrees;
            tree = cert-spells k text (record { blocks = k; plan = body.header.plan; cost = body.header.cost; bound = body.header.bound; paths = body.header.paths; tags = all }) reads;
          };
        } in
        record { cert = cert; reads = reads; answered = answered cert refl refl refl refl refl }

    -- what the text is read as where it ends
    at-end : cert_read (block_count design) text ≡ said_with (block_count design) body.header (with_tags b.tags (bytes_on (block_count design) body.reader []))
    at-end = ap (cert_read (block_count design)) (sym (append-nil text)) ∙ b.reads []

    -- the text ends behind its last tag
    pub body-done : (answer : Answer) → bytes_on n body.reader [] ≡ Ok []
        → ((cert : Cert) → cert.blocks ≡ block_count design → cert.cost ≡ body.header.cost → cert.bound ≡ body.header.bound → IsFound design bound part cert cert.tags body.judge → IsAnswer design bound part cert answer)
        → IsAnswerTo design bound part text answer
    body-done answer reads answered =
        let k = block_count design in
        ended b.tags answer
        (at-end ∙ ap (λ r. said_with k body.header (with_tags b.tags r)) (subst (λ k. bytes_on k body.reader [] ≡ Ok []) is reads) ∙ ap (λ ts. said_with k body.header (Ok ts)) (append-nil b.tags))
        (λ cert blocks plan cost stated tags. answered cert blocks cost stated
        (subst (λ ts. IsFound design bound part cert ts body.judge) (sym tags) (b.judged cert [] plan cost (tags ∙ sym (append-nil b.tags)))))

    -- the end of the text ends a tag
    pub body-last : (answer : Answer) (judge : Judged) (tag : Tag) → bytes_on n body.reader [] ≡ Ok (tag ∷ [])
        → ((cert : Cert) (tags more : List Tag) → cert.cost ≡ body.header.cost → cert.tags ≡ tags ++ tag ∷ more → IsFound design bound part cert tags body.judge → IsFound design bound part cert (tags ++ tag ∷ []) judge)
        → ((cert : Cert) → cert.blocks ≡ block_count design → cert.cost ≡ body.header.cost → cert.bound ≡ body.header.bound → IsFound design bound part cert cert.tags judge → IsAnswer design bound part cert answer)
        → IsAnswerTo design bound part text answer
    body-last answer judge tag reads found answered =
        let k = block_count design in
        ended (b.tags ++ tag ∷ []) answer
        (at-end ∙ ap (λ r. said_with k body.header (with_tags b.tags r)) (subst (λ k. bytes_on k body.reader [] ≡ Ok (tag ∷ [])) is reads))
        (λ cert blocks plan cost stated tags. answered cert blocks cost stated
        (subst (λ ts. IsFound design bound part cert ts judge) (sym tags) (found cert b.tags [] cost tags (b.judged cert (tag ∷ []) plan cost tags))))

-- one byte more of a piece
pub past-byte : (piece : List ℕ) (i : ℕ) → i < length piece → take i piece ++ get_or piece i 0 ∷ [] ≡ take (i + 1) piece
past-byte piece i h =
    let more : suc i ≡ i + 1 = omega arith in
    sym (take-suc piece i 0 h) ∙ ap (λ k. take k piece) more

-- the rest of a piece, as a slice has it
abbrev pub rest_of : List ℕ → ℕ → List ℕ
rest_of piece i = take (length piece - i) (drop i piece)

-- they are what is left of the piece
pub rest-is : (piece : List ℕ) (i : ℕ) → rest_of piece i ≡ drop i piece
rest-is piece i = take_all (length piece - i) (drop i piece) (omega (arith, length-drop i piece))

-- some bytes more of a piece, and all of them
pub past-bytes : (text piece : List ℕ) (i k : ℕ) → (text ++ take i piece) ++ take k (rest_of piece i) ≡ text ++ take (i + k) piece
past-bytes text piece i k =
    ap (λ r. (text ++ take i piece) ++ take k r) (rest-is piece i) ∙ append_assoc text (take i piece) (take k (drop i piece)) ∙ ap (λ p. text ++ p) (sym (take-add i k piece))

-- a piece up to a place, and the rest of it
pub past-all : (text piece : List ℕ) (i : ℕ) → (text ++ take i piece) ++ rest_of piece i ≡ text ++ piece
past-all text piece i = ap (λ r. (text ++ take i piece) ++ r) (rest-is piece i) ∙ append_assoc text (take i piece) (drop i piece) ∙ ap (λ p. text ++ p) (take-append-drop i piece)

-- a text at fault is so whatever follows
pub still-faulty : (design : Design) (text more : List ℕ) (e : CertFault) → IsFaulty design text e → IsFaulty design (text ++ more) e
still-faulty design text more e faulty rest = ap (cert_read (block_count design)) (append_assoc text more rest) ∙ faulty (more ++ rest)

-- a stage that can take the next byte holds one way at most
pub ready-way : (design : Design) (bound : Parts → ℕ) (stage : Stage) → IsReady design bound stage → HoldsOneWay design stage
ready-way design bound (Opening bytes) ready = tt
ready-way design bound (Tree body) ready = one-way design bound body.judge.walk.path ready
ready-way design bound (Fault fault) ready = tt

-- ---- the design and the bounds of a checking

module _ {B : Type 0} (value : B → Design → Parts → ℕ) (part_value : B → Design → Parts → Part → ℕ) (design : Design) (bound : Parts → ℕ) (part : Parts → Part → ℕ) (own : Design) (bounds : B) where
  module _ (text : List ℕ) (stage : Stage) (fed : IsFed value part_value design bound part text (own, bounds, stage)) where
    -- the values are those of the checking's own bounds
    same-bound : value bounds own ≡ bound
    same-bound = ap (value bounds) fed.serves ∙ fed.worth

    -- and so are those of the parts
    same-part : part_value bounds own ≡ part
    same-part = ap (part_value bounds) fed.serves ∙ fed.part_worth

    -- the stage is that of the checking's own design and bounds
    pub fed-stage : IsStage own (value bounds own) (part_value bounds own) text stage
    fed-stage =
        subst (λ d. IsStage d (value bounds own) (part_value bounds own) text stage) (sym fed.serves)
        (subst (λ v. IsStage design v (part_value bounds own) text stage) (sym same-bound) (subst (λ v. IsStage design bound v text stage) (sym same-part) fed.stage))

  -- an answer by the checking's own design and bounds is one by those that the text was fed for
  pub fed-answer : (text : List ℕ) (stage : Stage) (answer : Answer) → IsFed value part_value design bound part text (own, bounds, stage)
      → IsAnswerTo own (value bounds own) (part_value bounds own) text answer → IsAnswerTo design bound part text answer
  fed-answer text stage answer fed told =
      subst (λ v. IsAnswerTo design bound v text answer) (same-part text stage fed) (subst (λ v. IsAnswerTo design v (part_value bounds own) text answer) (same-bound text stage fed)
      (subst (λ d. IsAnswerTo d (value bounds own) (part_value bounds own) text answer) fed.serves told))

  -- a text that is longer by a piece leads to the stage that the piece leads to
  pub fed-more : {X E : Type 0} (text piece : List ℕ) (old new : Stage) (r : Result X E) → IsFed value part_value design bound part text (own, bounds, old)
      → ((text : List ℕ) → IsStage own (value bounds own) (part_value bounds own) text old → OnOk r (IsStage own (value bounds own) (part_value bounds own) (text ++ piece) new))
      → OnOk r (IsFed value part_value design bound part (text ++ piece) (own, bounds, new))
  fed-more text piece old new (Ok x) fed more =
      record {
        serves = fed.serves;
        worth = fed.worth;
        part_worth = fed.part_worth;
        stage = subst (λ v. IsStage design bound v (text ++ piece) new) (same-part text old fed) (subst (λ v. IsStage design v (part_value bounds own) (text ++ piece) new) (same-bound text old fed)
            (subst (λ d. IsStage d (value bounds own) (part_value bounds own) (text ++ piece) new) fed.serves (more text (fed-stage text old fed))));
      }
  fed-more text piece old new (Err e) fed more = tt
