-- The labels of the pieces of a block, and how they end.
use Rattle.std.proofs.Common.{Bool, List, [], ap, arith, false, inl, inr, refl, subst, sym, true, ℕ, ⊎_elim, ◌++◌, ◌+◌, ◌∙◌, ◌∷◌, ◌≡◌, ◌≤◌, ◌⊎◌}
use Rattle.std.specs.Prelude.{None, Option, Some, if◌then◌else◌, map, ◌==◌}
use Rattle.pass_fetch_proof.specs.rule_shape.Suspends.{is_suspend}
use Rattle.pass_split.specs.Pieces.{after_cut, begins_again, origin_after, origin_in, pieced_phi, redirected_term, stop_label}
use Rattle.pass_split.specs.declared.origin.Origin.{Origin}
use Rattle.pass_fetch_proof.proofs.ir_laws.paths.source_rules.Locals.{listed_left, listed_right}
use Rattle.pass_fetch_proof.proofs.ir_laws.facts.Lists.{row_of, times_joined}
use Rattle.pass_fetch_proof.specs.flow_solver.Paths.{IsListed}
use Rattle.pass_fetch_proof.specs.pass_intrinsics.Cuts.{cut_at, cut_call, goes_on, marks_save, next_suspend, token_in, transfers}
use Rattle.pass_fetch_proof.specs.pass_intrinsics.Lowered.{lowered, names_taken, number_of_save}
use Rattle.pass_fetch_proof.specs.pass_intrinsics.Shapes.{pass_label}
use Rattle.pass_fetch_proof.specs.pass_intrinsics.declared.cuts.Cut.{Cut}
use Rattle.pass_fetch_proof.specs.pass_intrinsics.declared.shape.Part.{Part}
use Rattle.pass_fetch_proof.specs.pass_intrinsics.declared.shape.Shape.{Shape}
use Rattle.ir_model.specs.declared.instr.Instr.{Instr}
use Rattle.ir_model.specs.declared.instr.Phi.{Phi}
use Rattle.ir_model.specs.declared.instr.Terminator.{Terminator}
use Rattle.ir_model.specs.declared.module.Block.{Block}
use Rattle.ir_model.specs.declared.operand.Callee.{Callee}
use Rattle.ir_model.specs.declared.operand.Intrinsic.{Intrinsic}
use Rattle.pass_fetch_proof.proofs.ir_laws.paths.replaced.Known.{listed_mapped}
use Rattle.pass_exits_proof.proofs.split.rules.Parted.{cut_returns, cut_transfers}
use Rattle.pass_exits_proof.specs.split.rules.Pieced.{ArePieces, ArePiecesOf, BeginsAgain, Ends, Marks, NoBlock, OneBlock, Returns, Stays, Suspends, Transfers, in_front}
use Rattle.pass_fetch_proof.specs.run_laws.changed.Changed.{Each}
use Rattle.pass_fetch_proof.proofs.ir_laws.facts.Members.{each_turns}
use Rattle.pass_fetch_proof.specs.ir_laws.facts.woven_rules.Pairs.{one_if, times}
use Rattle.pass_fetch_proof.proofs.ir_laws.facts.Numbers.{label_of}

-- ---- marks: the labels at which further pieces begin

abbrev pub mark_of : Shape → Cut → List ℕ
mark_of s Cut.Stays = []
mark_of s (Cut.Marks label) = label ∷ []
mark_of s Cut.Suspends = []
mark_of s Cut.Returns = []
mark_of s (Cut.Transfers j) = pass_label s j ∷ []

-- the instructions of a block, each with those behind it
abbrev pub sites : List Instr → List (Instr × List Instr)
sites [] = []
sites (i ∷ is) = (i, is) ∷ sites is

abbrev pub site_marks : Shape → Part → Instr × List Instr → List ℕ
site_marks s part x = mark_of s (cut_at s part x.0 x.1)

abbrev pub marks : Shape → Part → List Instr → List ℕ
marks s part is = row_of (site_marks s part) (sites is)

abbrev pub block_marks : Shape → Part → Block → List ℕ
block_marks s part b = marks s part b.instrs

abbrev pub phis_of : Block → List Phi
phis_of b = b.phis

abbrev pub labels : List Block → List ℕ
labels bs = map label_of bs

pub labels_joined : (bs cs : List Block) → labels (bs ++ cs) ≡ labels bs ++ labels cs
labels_joined [] cs = refl
labels_joined (b ∷ bs) cs = ap (λ (ns : List ℕ). b.label ∷ ns) (labels_joined bs cs)

-- none of the instructions is a suspend
abbrev pub HasNoSuspend : List Instr → Type 0
HasNoSuspend is = (i : Instr) → IsListed i is → is_suspend i ≡ true → ⊥

module _ (s : Shape) (part : Part) where
  -- ---- labels

  -- each piece has the block's label or a mark of it, and none twice but where the block has it twice
  pieces_times : (t : Terminator) (label : ℕ) (phis : List Phi) (n last : ℕ) (is : List Instr) (cs : List Block) → ArePieces s part t label phis n is cs last → (v : ℕ) → times v (labels cs) ≤ one_if (label == v) + times v (marks s part is)
  pieces_times t _ _ _ _ _ _ (Ends label n phis) v = omega arith
  pieces_times t _ _ _ _ _ _ (Stays label n last phis i is c cs e d rest) v =
      let more : times v (labels (c ∷ cs)) ≤ one_if (label == v) + times v (marks s part is) = pieces_times t label phis (n + names_taken i) last is (c ∷ cs) rest v in
      let same : times v (marks s part (i ∷ is)) ≡ times v (marks s part is) = ap (λ (x : Cut). times v (mark_of s x ++ marks s part is)) d in
      omega (arith, more, same)
  pieces_times t _ _ _ _ _ _ (Marks label n last mark phis i is cs e d rest) v =
      let more : times v (labels cs) ≤ one_if (mark == v) + times v (marks s part is) = pieces_times t mark [] (n + names_taken i) last is cs rest v in
      let same : times v (marks s part (i ∷ is)) ≡ one_if (mark == v) + times v (marks s part is) = ap (λ (x : Cut). times v (mark_of s x ++ marks s part is)) d in
      omega (arith, more, same)
  pieces_times t _ _ _ _ _ _ (Suspends label n phis i is e d) v = omega arith
  pieces_times t _ _ _ _ _ _ (Returns label n phis i is e d) v = omega arith
  pieces_times t _ _ _ _ _ _ (Transfers label n j phis i is e d) v =
      let same : times v (marks s part (i ∷ is)) ≡ one_if (pass_label s j == v) + times v (marks s part is) = ap (λ (x : Cut). times v (mark_of s x ++ marks s part is)) d in
      omega (arith, same)
  pieces_times t _ _ _ _ _ _ (BeginsAgain label n phis i is e) v = omega arith

  pub blocks_times : (origins : List Origin) (n last : ℕ) (bs cs : List Block) → ArePiecesOf s part origins n bs cs last → (v : ℕ) → times v (labels cs) ≤ times v (labels bs) + times v (row_of (block_marks s part) bs)
  blocks_times origins _ _ _ _ (NoBlock n) v = omega arith
  blocks_times origins _ _ _ _ (OneBlock n next last b bs cs ds k rest) v =
      let here : times v (labels cs) ≤ one_if (b.label == v) + times v (marks s part b.instrs) = pieces_times b.term b.label (map (pieced_phi s part origins b.label) b.phis) n next b.instrs cs k v in
      let more : times v (labels ds) ≤ times v (labels bs) + times v (row_of (block_marks s part) bs) = blocks_times origins next last bs ds rest v in
      let both : times v (labels (cs ++ ds)) ≡ times v (labels cs) + times v (labels ds) = ap (times v) (labels_joined cs ds) ∙ times_joined v (labels cs) (labels ds) in
      let rows : times v (marks s part b.instrs ++ row_of (block_marks s part) bs) ≡ times v (marks s part b.instrs) + times v (row_of (block_marks s part) bs) = times_joined v (marks s part b.instrs) (row_of (block_marks s part) bs) in
      omega (arith, here, more, both, rows)

  -- a mark of the first instruction, and one of those behind it
  first_mark : (i : Instr) (is : List Instr) (c : Cut) (v : ℕ) → cut_at s part i is ≡ c → IsListed v (mark_of s c) → IsListed v (marks s part (i ∷ is))
  first_mark i is c v d l = listed_left v (mark_of s (cut_at s part i is)) (marks s part is) (subst (λ (x : Cut). IsListed v (mark_of s x)) (sym d) l)

  later_mark : (i : Instr) (is : List Instr) (v : ℕ) → IsListed v (marks s part is) → IsListed v (marks s part (i ∷ is))
  later_mark i is v l = listed_right v (mark_of s (cut_at s part i is)) (marks s part is) l

  pub piece_label : (t : Terminator) (label : ℕ) (phis : List Phi) (n last : ℕ) (is : List Instr) (cs : List Block) → ArePieces s part t label phis n is cs last → (v : ℕ) → IsListed v (labels cs) → (v ≡ label) ⊎ IsListed v (marks s part is)
  piece_label t _ _ _ _ _ _ (Ends label n phis) v l = ⊎_elim (λ e. inl e) (λ k. absurd k) l
  piece_label t _ _ _ _ _ _ (Stays label n last phis i is c cs e d rest) v l =
      ⊎_elim (λ same. inl same) (λ more. inr (later_mark i is v more)) (piece_label t label phis (n + names_taken i) last is (c ∷ cs) rest v l)
  piece_label t _ _ _ _ _ _ (Marks label n last mark phis i is cs e d rest) v l =
      ⊎_elim (λ same. inl same)
      (λ k. ⊎_elim (λ same. inr (first_mark i is (Cut.Marks mark) v d (inl same))) (λ more. inr (later_mark i is v more)) (piece_label t mark [] (n + names_taken i) last is cs rest v k))
      l
  piece_label t _ _ _ _ _ _ (Suspends label n phis i is e d) v l = ⊎_elim (λ same. inl same) (λ k. absurd k) l
  piece_label t _ _ _ _ _ _ (Returns label n phis i is e d) v l = ⊎_elim (λ same. inl same) (λ k. absurd k) l
  piece_label t _ _ _ _ _ _ (Transfers label n j phis i is e d) v l =
      ⊎_elim (λ same. inl same) (λ k. ⊎_elim (λ same. inr (first_mark i is (Cut.Transfers j) v d (inl same))) (λ none. absurd none) k) l
  piece_label t _ _ _ _ _ _ (BeginsAgain label n phis i is e) v l = ⊎_elim (λ same. inl same) (λ k. absurd k) l

  -- the first piece has the block's label and phis, and no other has phis
  abbrev pub HasHead : ℕ → List Phi → List Block → Type 0
  HasHead label phis [] = ⊥
  HasHead label phis (c ∷ cs) = (c.label ≡ label) × (c.phis ≡ phis)

  pub head_is : (t : Terminator) (label : ℕ) (phis : List Phi) (n last : ℕ) (is : List Instr) (cs : List Block) → ArePieces s part t label phis n is cs last → HasHead label phis cs
  head_is t _ _ _ _ _ _ (Ends label n phis) = (refl, refl)
  head_is t _ _ _ _ _ _ (Stays label n last phis i is c cs e d rest) = head_is t label phis (n + names_taken i) last is (c ∷ cs) rest
  head_is t _ _ _ _ _ _ (Marks label n last mark phis i is cs e d rest) = (refl, refl)
  head_is t _ _ _ _ _ _ (Suspends label n phis i is e d) = (refl, refl)
  head_is t _ _ _ _ _ _ (Returns label n phis i is e d) = (refl, refl)
  head_is t _ _ _ _ _ _ (Transfers label n j phis i is e d) = (refl, refl)
  head_is t _ _ _ _ _ _ (BeginsAgain label n phis i is e) = (refl, refl)

  pub record IsFirst (label : ℕ) (phis : List Phi) (cs : List Block) : Type 0 where
    pub piece : Block
    pub listed : IsListed piece cs
    pub has_label : piece.label ≡ label
    pub has_phis : piece.phis ≡ phis

  pub first_piece : (t : Terminator) (label : ℕ) (phis : List Phi) (n last : ℕ) (is : List Instr) (cs : List Block) → ArePieces s part t label phis n is cs last → IsFirst label phis cs
  first_piece t label phis n last is cs h = on cs (head_is t label phis n last is cs h)
    where
      on : (cs : List Block) → HasHead label phis cs → IsFirst label phis cs
      on [] k = absurd k
      on (c ∷ cs) k = record { piece = c; listed = inl refl; has_label = k.0; has_phis = k.1 }

  -- the label of the first piece is one of theirs
  pub starts : (t : Terminator) (label : ℕ) (phis : List Phi) (n last : ℕ) (is : List Instr) (cs : List Block) → ArePieces s part t label phis n is cs last → IsListed label (labels cs)
  starts t label phis n last is cs h =
      let x = first_piece t label phis n last is cs h in
      subst (λ (v : ℕ). IsListed v (labels cs)) x.has_label (listed_mapped label_of cs x.piece x.listed)

  abbrev HasItsPhis : ℕ → List Phi → Block → Type 0
  HasItsPhis label phis c = ((c.label ≡ label) × (c.phis ≡ phis)) ⊎ (c.phis ≡ [])

  pub piece_phis : (t : Terminator) (label : ℕ) (phis : List Phi) (n last : ℕ) (is : List Instr) (cs : List Block) → ArePieces s part t label phis n is cs last → (c : Block) → IsListed c cs → HasItsPhis label phis c
  piece_phis t _ _ _ _ _ _ (Ends label n phis) c l = ⊎_elim (λ e. inl (ap label_of e, ap phis_of e)) (λ k. absurd k) l
  piece_phis t _ _ _ _ _ _ (Stays label n last phis i is d cs e k rest) c l =
      let same = head_is t label phis (n + names_taken i) last is (d ∷ cs) rest in
      ⊎_elim (λ e. inl (ap label_of e ∙ same.0, ap phis_of e ∙ same.1)) (λ m. piece_phis t label phis (n + names_taken i) last is (d ∷ cs) rest c (inr m)) l
  piece_phis t _ _ _ _ _ _ (Marks label n last mark phis i is cs e d rest) c l =
      ⊎_elim (λ e. inl (ap label_of e, ap phis_of e)) (λ m. ⊎_elim (λ both. inr both.1) (λ none. inr none) (piece_phis t mark [] (n + names_taken i) last is cs rest c m)) l
  piece_phis t _ _ _ _ _ _ (Suspends label n phis i is e d) c l = ⊎_elim (λ e. inl (ap label_of e, ap phis_of e)) (λ k. absurd k) l
  piece_phis t _ _ _ _ _ _ (Returns label n phis i is e d) c l = ⊎_elim (λ e. inl (ap label_of e, ap phis_of e)) (λ k. absurd k) l
  piece_phis t _ _ _ _ _ _ (Transfers label n j phis i is e d) c l =
      ⊎_elim (λ e. inl (ap label_of e, ap phis_of e)) (λ k. ⊎_elim (λ e. inr (ap phis_of e)) (λ none. absurd none) k) l
  piece_phis t _ _ _ _ _ _ (BeginsAgain label n phis i is e) c l = ⊎_elim (λ e. inl (ap label_of e, ap phis_of e)) (λ k. absurd k) l

  -- ---- cuts alone

  call_alone : (r : Option ℕ) (after : List Instr) (x : Intrinsic) → (cut_call s part r after x ≡ cut_call s part r [] x) ⊎ ((j : ℕ) × (cut_call s part r after x ≡ Cut.Transfers j))
  call_alone r after Intrinsic.CoroResume = on (goes_on part) (next_suspend s after)
    where
      on : (b : Bool) (o : Option ℕ) → ((if b then transfers o else Cut.Stays) ≡ (if b then transfers None else Cut.Stays)) ⊎ ((j : ℕ) × ((if b then transfers o else Cut.Stays) ≡ Cut.Transfers j))
      on true None = inl refl
      on true (Some j) = inr (j, refl)
      on false o = inl refl
  call_alone r after _ = inl refl

  -- only a resume looks at what stands behind it, and it then transfers
  pub cut_alone : (i : Instr) (after : List Instr) → (cut_at s part i after ≡ cut_at s part i []) ⊎ ((j : ℕ) × (cut_at s part i after ≡ Cut.Transfers j))
  cut_alone (Instr.Call r must_tail ty (Callee.Intrinsic x) args) after = call_alone r after x
  cut_alone _ after = inl refl

  abbrev IsTransfer : Cut → Type 0
  IsTransfer c = (j : ℕ) × (c ≡ Cut.Transfers j)

  pub alone : (i : Instr) (after : List Instr) (c : Cut) → (IsTransfer c → ⊥) → cut_at s part i after ≡ c → cut_at s part i [] ≡ c
  alone i after c none d =
      ⊎_elim (λ (e : cut_at s part i after ≡ cut_at s part i []). sym e ∙ d) (λ (e : IsTransfer (cut_at s part i after)). absurd (none (e.0, sym d ∙ e.1))) (cut_alone i after)

  -- a suspend alone ends a block as one
  call_suspends : (r : Option ℕ) (after : List Instr) (x : Intrinsic) → cut_call s part r after x ≡ Cut.Suspends → x ≡ Intrinsic.CoroSuspend
  call_suspends r after Intrinsic.CoroSuspend e = refl
  call_suspends r after Intrinsic.CoroEnd e = on (goes_on part) e
    where
      on : (b : Bool) → (if b then Cut.Returns else Cut.Stays) ≡ Cut.Suspends → Intrinsic.CoroEnd ≡ Intrinsic.CoroSuspend
      on true e = absurd (cc)
      on false e = absurd (cc)
  call_suspends r after Intrinsic.CoroResume e = on (goes_on part) (next_suspend s after) e
    where
      on : (b : Bool) (o : Option ℕ) → (if b then transfers o else Cut.Stays) ≡ Cut.Suspends → Intrinsic.CoroResume ≡ Intrinsic.CoroSuspend
      on true None e = absurd (cc)
      on true (Some j) e = absurd (cc)
      on false o e = absurd (cc)
  call_suspends r after Intrinsic.CoroSave e = on (number_of_save s r) e
    where
      on : (o : Option ℕ) → marks_save s o ≡ Cut.Suspends → Intrinsic.CoroSave ≡ Intrinsic.CoroSuspend
      on None e = absurd (cc)
      on (Some j) e = absurd (cc)
  call_suspends r after _ e = absurd (cc)

  pub suspends_alone : (i : Instr) (after : List Instr) → cut_at s part i after ≡ Cut.Suspends → is_suspend i ≡ true
  suspends_alone (Instr.Call r must_tail ty (Callee.Intrinsic x) args) after e = ap (λ (y : Intrinsic). is_suspend (Instr.Call r must_tail ty (Callee.Intrinsic y) args)) (call_suspends r after x e)
  suspends_alone _ after e = absurd (cc)

  -- a resume transfers right before a suspend
  pub numbered_suspend : (j : ℕ) (k : Instr) → number_of_save s (token_in k) ≡ Some j → is_suspend k ≡ true
  numbered_suspend j (Instr.Call r must_tail ty (Callee.Intrinsic Intrinsic.CoroSuspend) args) e = refl
  numbered_suspend j _ e = absurd (cc)

  pub call_transfers : (j : ℕ) (r : Option ℕ) (after : List Instr) (x : Intrinsic)
      → cut_call s part r after x ≡ Cut.Transfers j → next_suspend s after ≡ Some j
  call_transfers j r after Intrinsic.CoroEnd e = on (goes_on part) e
    where
      on : (b : Bool) → (if b then Cut.Returns else Cut.Stays) ≡ Cut.Transfers j → next_suspend s after ≡ Some j
      on true e = absurd (cc)
      on false e = absurd (cc)
  call_transfers j r after Intrinsic.CoroResume e = on (goes_on part) (next_suspend s after) refl e
    where
      on : (b : Bool) (o : Option ℕ) → next_suspend s after ≡ o → (if b then transfers o else Cut.Stays) ≡ Cut.Transfers j → next_suspend s after ≡ Some j
      on true None d e = absurd (cc)
      on true (Some k) d e = let same : k ≡ j = cc in d ∙ ap (λ (n : ℕ). Some n) same
      on false o d e = absurd (cc)
  call_transfers j r after Intrinsic.CoroSave e = on (number_of_save s r) e
    where
      on : (o : Option ℕ) → marks_save s o ≡ Cut.Transfers j → next_suspend s after ≡ Some j
      on None e = absurd (cc)
      on (Some k) e = absurd (cc)
  call_transfers j r after _ e = absurd (cc)

  pub transfers_next : (j : ℕ) (i : Instr) (after : List Instr) → cut_at s part i after ≡ Cut.Transfers j → (k : Instr) × (IsListed k after × (is_suspend k ≡ true))
  transfers_next j (Instr.Call r must_tail ty (Callee.Intrinsic x) args) after e = on after (call_transfers j r after x e)
    where
      on : (after : List Instr) → next_suspend s after ≡ Some j → (k : Instr) × (IsListed k after × (is_suspend k ≡ true))
      on [] d = absurd (cc)
      on (k ∷ ks) d = (k, (inl refl, numbered_suspend j k d))
  transfers_next j _ after e = absurd (cc)

  -- ---- where edges come from

  pub origin_step : (label : ℕ) (i : Instr) (c : Cut) → begins_again part i ≡ false → cut_at s part i [] ≡ c → origin_after s part (Origin.Piece label) i ≡ after_cut (Origin.Piece label) c
  origin_step label i c e d = ap (λ (b : Bool). if b then Origin.Nowhere else after_cut (Origin.Piece label) (cut_at s part i [])) e ∙ ap (after_cut (Origin.Piece label)) d

  pub nowhere_stays : (is : List Instr) → origin_in s part Origin.Nowhere is ≡ Origin.Nowhere
  nowhere_stays [] = refl
  nowhere_stays (i ∷ is) = nowhere_stays is

  -- ---- how pieces end

  -- a piece of a block with a terminator, instructions and a label ends as the block does, with a jump to the next piece or to the stop edge's
  -- label, with a return, or never
  pub data EndsAs (t : Terminator) (is : List Instr) (start : ℕ) (all : List ℕ) (label : ℕ) (term : Terminator) : Type 0 where
    Whole : term ≡ redirected_term s t → origin_in s part (Origin.Piece start) is ≡ Origin.Piece label → EndsAs t is start all label term
    ToMark : (mark : ℕ) → IsListed mark (marks s part is) → IsListed mark all → term ≡ Terminator.Jump mark → EndsAs t is start all label term
    Stop : (i : Instr) → IsListed i is → is_suspend i ≡ true → term ≡ Terminator.Jump (stop_label t) → EndsAs t is start all label term
    Return : goes_on part ≡ true → term ≡ Terminator.Ret None → EndsAs t is start all label term
    Never : term ≡ Terminator.Unreachable → EndsAs t is start all label term

  -- with one more instruction in front, and more labels
  later_end : (t : Terminator) (i : Instr) (is : List Instr) (start now : ℕ) (all more : List ℕ) (label : ℕ) (term : Terminator) → origin_after s part (Origin.Piece now) i ≡ Origin.Piece start → ((v : ℕ) → IsListed v all → IsListed v more) → EndsAs t is start all label term → EndsAs t (i ∷ is) now more label term
  later_end t i is start now all more label term o h (Whole e d) = Whole e (ap (λ (x : Origin). origin_in s part x is) o ∙ d)
  later_end t i is start now all more label term o h (ToMark mark l k e) = ToMark mark (later_mark i is mark l) (h mark k) e
  later_end t i is start now all more label term o h (Stop j l k e) = Stop j (inr l) k e
  later_end t i is start now all more label term o h (Return g e) = Return g e
  later_end t i is start now all more label term o h (Never e) = Never e

  no_stays : IsTransfer Cut.Stays → ⊥
  no_stays x = let e : Cut.Stays ≡ Cut.Transfers x.0 = x.1 in absurd (cc)

  no_marks : (mark : ℕ) → IsTransfer (Cut.Marks mark) → ⊥
  no_marks mark x = let e : Cut.Marks mark ≡ Cut.Transfers x.0 = x.1 in absurd (cc)

  no_returns : IsTransfer Cut.Returns → ⊥
  no_returns x = let e : Cut.Returns ≡ Cut.Transfers x.0 = x.1 in absurd (cc)

  abbrev pub PieceEnds : Terminator → List Instr → ℕ → List ℕ → Block → Type 0
  PieceEnds t is start all c = EndsAs t is start all c.label c.term

  pub pieces_end : (t : Terminator) (label : ℕ) (phis : List Phi) (n last : ℕ) (is : List Instr) (cs : List Block) → ArePieces s part t label phis n is cs last → Each (PieceEnds t is label (labels cs)) cs
  pieces_end t _ _ _ _ _ _ (Ends label n phis) = (Whole refl refl, tt)
  pieces_end t _ _ _ _ _ _ (Stays label n last phis i is c cs e d rest) =
      let again = pieces_end t label phis (n + names_taken i) last is (c ∷ cs) rest in
      let o = origin_step label i Cut.Stays e (alone i is Cut.Stays no_stays d) in
      each_turns (PieceEnds t is label (labels (c ∷ cs))) (PieceEnds t (i ∷ is) label (labels (c ∷ cs))) (λ x h. later_end t i is label label (labels (c ∷ cs)) (labels (c ∷ cs)) x.label x.term o (λ v l. l) h) (c ∷ cs) again
  pieces_end t _ _ _ _ _ _ (Marks label n last mark phis i is cs e d rest) =
      let again = pieces_end t mark [] (n + names_taken i) last is cs rest in
      let o = origin_step label i (Cut.Marks mark) e (alone i is (Cut.Marks mark) (no_marks mark) d) in (
        ToMark mark (first_mark i is (Cut.Marks mark) mark d (inl refl)) (inr (starts t mark [] (n + names_taken i) last is cs rest)) refl,
        each_turns (PieceEnds t is mark (labels cs)) (PieceEnds t (i ∷ is) label (label ∷ labels cs)) (λ x h. later_end t i is mark label (labels cs) (label ∷ labels cs) x.label x.term o (λ v l. inr l) h) cs again,
      )
  pieces_end t _ _ _ _ _ _ (Suspends label n phis i is e d) = (Stop i (inl refl) (suspends_alone i is d) refl, tt)
  pieces_end t _ _ _ _ _ _ (Returns label n phis i is e d) = (Return (cut_returns s part i is d) refl, tt)
  pieces_end t _ _ _ _ _ _ (Transfers label n j phis i is e d) = (
    ToMark (pass_label s j) (first_mark i is (Cut.Transfers j) (pass_label s j) d (inl refl)) (inr (inl refl)) refl,
    (Return (cut_transfers s part j i is d) refl, tt),
  )
  pieces_end t _ _ _ _ _ _ (BeginsAgain label n phis i is e) = (Never refl, tt)

  -- ---- the piece that ends as its block does

  pub record IsWhole (t : Terminator) (label : ℕ) (cs : List Block) : Type 0 where
    pub piece : Block
    pub listed : IsListed piece cs
    pub has_label : piece.label ≡ label
    pub has_term : piece.term ≡ redirected_term s t

  pub whole_piece : (t : Terminator) (label : ℕ) (phis : List Phi) (n last : ℕ) (is : List Instr) (cs : List Block) → ArePieces s part t label phis n is cs last → HasNoSuspend is → (l : ℕ) → origin_in s part (Origin.Piece label) is ≡ Origin.Piece l → IsWhole t l cs
  whole_piece t _ _ _ _ _ _ (Ends label n phis) none l o = let same : label ≡ l = cc in record { piece = _; listed = inl refl; has_label = same; has_term = refl }
  whole_piece t _ _ _ _ _ _ (Stays label n last phis i is c cs e d rest) none l o = on (whole_piece t label phis (n + names_taken i) last is (c ∷ cs) rest (λ j k. none j (inr k)) l (sym (ap (λ (x : Origin). origin_in s part x is) (origin_step label i Cut.Stays e (alone i is Cut.Stays no_stays d))) ∙ o))
    where
      at : (x : Block) → IsListed x (c ∷ cs) → x.label ≡ l → x.term ≡ redirected_term s t → IsWhole t l (in_front (lowered s part n i) c ∷ cs)
      at x (inl same) a b = record { piece = in_front (lowered s part n i) c; listed = inl refl; has_label = ap label_of (sym same) ∙ a; has_term = ap (λ (y : Block). y.term) (sym same) ∙ b }
      at x (inr k) a b = record { piece = x; listed = inr k; has_label = a; has_term = b }

      on : IsWhole t l (c ∷ cs) → IsWhole t l (in_front (lowered s part n i) c ∷ cs)
      on x = at x.piece x.listed x.has_label x.has_term
  whole_piece t _ _ _ _ _ _ (Marks label n last mark phis i is cs e d rest) none l o =
      let x = whole_piece t mark [] (n + names_taken i) last is cs rest (λ j k. none j (inr k)) l (sym (ap (λ (x : Origin). origin_in s part x is) (origin_step label i (Cut.Marks mark) e (alone i is (Cut.Marks mark) (no_marks mark) d))) ∙ o) in
      record { piece = x.piece; listed = inr x.listed; has_label = x.has_label; has_term = x.has_term }
  whole_piece t _ _ _ _ _ _ (Suspends label n phis i is e d) none l o = absurd (none i (inl refl) (suspends_alone i is d))
  whole_piece t _ _ _ _ _ _ (Returns label n phis i is e d) none l o =
      let over : Origin.Nowhere ≡ Origin.Piece l = sym (nowhere_stays is) ∙ sym (ap (λ (x : Origin). origin_in s part x is) (origin_step label i Cut.Returns e (alone i is Cut.Returns no_returns d))) ∙ o in
      absurd (cc)
  whole_piece t _ _ _ _ _ _ (Transfers label n j phis i is e d) none l o = let x = transfers_next j i is d in absurd (none x.0 (inr x.1.0) x.1.1)
  whole_piece t _ _ _ _ _ _ (BeginsAgain label n phis i is e) none l o =
      let again : origin_after s part (Origin.Piece label) i ≡ Origin.Nowhere = ap (λ (b : Bool). if b then Origin.Nowhere else after_cut (Origin.Piece label) (cut_at s part i [])) e in
      let over : Origin.Nowhere ≡ Origin.Piece l = sym (nowhere_stays is) ∙ sym (ap (λ (x : Origin). origin_in s part x is) again) ∙ o in
      absurd (cc)
