-- Where the blocks of a part come from, before those are left out that aren't reached: from the front of the part, from a block of the function, or from the mark of the end.
use Rattle.std.proofs.Common.{◌≡◌, inl, inr, ℕ, Bool, true, false, List, [], ◌∷◌, ◌++◌, refl, sym, ap, ◌∙◌}
use Rattle.std.specs.Prelude.{None, Option, Some, map, slice_get, if◌then◌else◌}
use Rattle.pass_split.specs.Pieces.{after_cut, begins_again, origin_after, origin_in, pieced_phi}
use Rattle.pass_split.specs.declared.origin.Origin.{Origin}
use Rattle.pass_fetch_proof.proofs.ir_laws.paths.source_rules.Locals.{Apart}
use Rattle.pass_fetch_proof.specs.flow_solver.Paths.{IsListed}
use Rattle.pass_fetch_proof.specs.pass_intrinsics.Cuts.{cut_at, goes_on, marks_save, next_suspend, token_in, transfers}
use Rattle.pass_fetch_proof.specs.pass_intrinsics.Lowered.{lowered, number_of_save}
use Rattle.pass_fetch_proof.specs.pass_intrinsics.declared.cuts.Cut.{Cut}
use Rattle.pass_fetch_proof.specs.pass_intrinsics.declared.shape.Part.{Part}
use Rattle.pass_fetch_proof.specs.pass_intrinsics.declared.shape.Shape.{Shape}
use Rattle.ir_model.specs.declared.instr.Instr.{Instr}
use Rattle.ir_model.specs.declared.instr.Phi.{Phi}
use Rattle.ir_model.specs.declared.instr.Terminator.{Terminator}
use Rattle.ir_model.specs.declared.module.Block.{Block}
use Rattle.ir_model.specs.declared.operand.Callee.{Callee}
use Rattle.ir_model.specs.declared.operand.Intrinsic.{Intrinsic}
use Rattle.pass_fetch_proof.proofs.rule_laws.frames.uses.Quiet.{suspends}
use Rattle.pass_exits_proof.specs.split.rules.Pieced.{ArePieces, BeginsAgain, Ends, Marks, Returns, Stays, Suspends, Transfers}
use Rattle.pass_fetch_proof.specs.run_laws.changed.Changed.{Each}
use Rattle.pass_fetch_proof.proofs.ir_laws.facts.uses.Sources.{label_of}

-- the pieces of a block
pub record HasPieces (s : Shape) (part : Part) (origins : List Origin) (css : List (List Block)) (q : ℕ) (b : Block) : Type 0 where
  pub first : Block
  pub rest : List Block
  pub new : ℕ
  pub last : ℕ
  pub there : slice_get css q ≡ Some (first ∷ rest)
  pub pieces : ArePieces s part b.term b.label (map (pieced_phi s part origins b.label) b.phis) new b.instrs (first ∷ rest) last
  pub apart : Apart (map label_of (first ∷ rest))

-- the first of the pieces
pub record IsFirst (label : ℕ) (phis : List Phi) (cs : List Block) : Type 0 where
  pub first : Block
  pub rest : List Block
  pub is : cs ≡ first ∷ rest
  pub label_is : first.label ≡ label
  pub phis_are : first.phis ≡ phis

pub first_piece : (s : Shape) (part : Part) (t : Terminator) (label : ℕ) (phis : List Phi) (n last : ℕ) (is : List Instr) (cs : List Block) → ArePieces s part t label phis n is cs last → IsFirst label phis cs
first_piece s part t _ _ _ _ _ _ (Ends label n phis) = record { first = _; rest = []; is = refl; label_is = refl; phis_are = refl }
first_piece s part t _ _ _ _ _ _ (Stays label n last phis i is c cs e d more) =
    let x = first_piece s part t label phis _ last is (c ∷ cs) more in
    let same : c ≡ x.first = (let both : c ∷ cs ≡ x.first ∷ x.rest = x.is in cc) in
    record { first = record { label = c.label; phis = c.phis; instrs = lowered s part n i ++ c.instrs; term = c.term }; rest = cs; is = refl; label_is = ap (λ (b : Block). b.label) same ∙ x.label_is; phis_are = ap (λ (b : Block). b.phis) same ∙ x.phis_are }
first_piece s part t _ _ _ _ _ _ (Marks label n last mark phis i is cs e d more) = record { first = _; rest = cs; is = refl; label_is = refl; phis_are = refl }
first_piece s part t _ _ _ _ _ _ (Suspends label n phis i is e d) = record { first = _; rest = []; is = refl; label_is = refl; phis_are = refl }
first_piece s part t _ _ _ _ _ _ (Returns label n phis i is e d) = record { first = _; rest = []; is = refl; label_is = refl; phis_are = refl }
first_piece s part t _ _ _ _ _ _ (Transfers label n j phis i is e d) = record { first = _; rest = _; is = refl; label_is = refl; phis_are = refl }
first_piece s part t _ _ _ _ _ _ (BeginsAgain label n phis i is e) = record { first = _; rest = []; is = refl; label_is = refl; phis_are = refl }

-- ---- from which piece the edges of a block come

abbrev pub NoSuspends : List Instr → Type 0
NoSuspends is = Each (λ (i : Instr). suspends i ≡ false) is

module _ (s : Shape) (part : Part) where
  stays_here : (l : ℕ) (i : Instr) (is : List Instr) → cut_at s part i is ≡ Cut.Stays → after_cut (Origin.Piece l) (cut_at s part i []) ≡ Origin.Piece l
  stays_here l (Instr.Call r must_tail ty (Callee.Intrinsic Intrinsic.CoroResume) args) is e = on (goes_on part)
    where
      on : (b : Bool) → after_cut (Origin.Piece l) (if b then transfers (next_suspend s []) else Cut.Stays) ≡ Origin.Piece l
      on true = refl
      on false = refl
  stays_here l (Instr.Call r must_tail ty (Callee.Intrinsic x) args) is e = ap (after_cut (Origin.Piece l)) e
  stays_here l _ is e = refl

  marks_there : (l mark : ℕ) (i : Instr) (is : List Instr) → cut_at s part i is ≡ Cut.Marks mark → after_cut (Origin.Piece l) (cut_at s part i []) ≡ Origin.Piece mark
  marks_there l mark (Instr.Call r must_tail ty (Callee.Intrinsic Intrinsic.CoroResume) args) is e = absurd (on (goes_on part) (next_suspend s is) e)
    where
      moves : (o : Option ℕ) → transfers o ≡ Cut.Marks mark → ⊥
      moves None e = absurd (cc)
      moves (Some j) e = absurd (cc)

      on : (b : Bool) (o : Option ℕ) → (if b then transfers o else Cut.Stays) ≡ Cut.Marks mark → ⊥
      on true o e = moves o e
      on false o e = absurd (cc)
  marks_there l mark (Instr.Call r must_tail ty (Callee.Intrinsic x) args) is e = ap (after_cut (Origin.Piece l)) e
  marks_there l mark _ is e = absurd (cc)

  returns_nowhere : (l : ℕ) (i : Instr) (is : List Instr) → cut_at s part i is ≡ Cut.Returns → after_cut (Origin.Piece l) (cut_at s part i []) ≡ Origin.Nowhere
  returns_nowhere l (Instr.Call r must_tail ty (Callee.Intrinsic Intrinsic.CoroResume) args) is e = absurd (on (goes_on part) (next_suspend s is) e)
    where
      moves : (o : Option ℕ) → transfers o ≡ Cut.Returns → ⊥
      moves None e = absurd (cc)
      moves (Some j) e = absurd (cc)

      on : (b : Bool) (o : Option ℕ) → (if b then transfers o else Cut.Stays) ≡ Cut.Returns → ⊥
      on true o e = moves o e
      on false o e = absurd (cc)
  returns_nowhere l (Instr.Call r must_tail ty (Callee.Intrinsic x) args) is e = ap (after_cut (Origin.Piece l)) e
  returns_nowhere l _ is e = absurd (cc)

  -- the origin behind an instruction, before which the block hasn't ended
  after_it : (l : ℕ) (i : Instr) → begins_again part i ≡ false → origin_after s part (Origin.Piece l) i ≡ after_cut (Origin.Piece l) (cut_at s part i [])
  after_it l i e = ap (λ (b : Bool). if b then Origin.Nowhere else after_cut (Origin.Piece l) (cut_at s part i [])) e

  pub origin_stays : (l : ℕ) (i : Instr) (is : List Instr) → begins_again part i ≡ false → cut_at s part i is ≡ Cut.Stays → origin_in s part (Origin.Piece l) (i ∷ is) ≡ origin_in s part (Origin.Piece l) is
  origin_stays l i is again e = ap (λ (o : Origin). origin_in s part o is) (after_it l i again ∙ stays_here l i is e)

  pub origin_marks : (l mark : ℕ) (i : Instr) (is : List Instr) → begins_again part i ≡ false → cut_at s part i is ≡ Cut.Marks mark → origin_in s part (Origin.Piece l) (i ∷ is) ≡ origin_in s part (Origin.Piece mark) is
  origin_marks l mark i is again e = ap (λ (o : Origin). origin_in s part o is) (after_it l i again ∙ marks_there l mark i is e)

  nowhere_stays : (is : List Instr) → origin_in s part Origin.Nowhere is ≡ Origin.Nowhere
  nowhere_stays [] = refl
  nowhere_stays (i ∷ is) = nowhere_stays is

  pub origin_returns : (l k : ℕ) (i : Instr) (is : List Instr) → begins_again part i ≡ false → cut_at s part i is ≡ Cut.Returns → origin_in s part (Origin.Piece l) (i ∷ is) ≡ Origin.Piece k → ⊥
  origin_returns l k i is again e d =
      let t : Origin.Nowhere ≡ Origin.Piece k = sym (ap (λ (o : Origin). origin_in s part o is) (after_it l i again ∙ returns_nowhere l i is e) ∙ nowhere_stays is) ∙ d in
      absurd (cc)

  pub origin_begins : (l k : ℕ) (i : Instr) (is : List Instr) → begins_again part i ≡ true → origin_in s part (Origin.Piece l) (i ∷ is) ≡ Origin.Piece k → ⊥
  origin_begins l k i is again d =
      let gone : origin_after s part (Origin.Piece l) i ≡ Origin.Nowhere = ap (λ (b : Bool). if b then Origin.Nowhere else after_cut (Origin.Piece l) (cut_at s part i [])) again in
      let t : Origin.Nowhere ≡ Origin.Piece k = sym (ap (λ (o : Origin). origin_in s part o is) gone ∙ nowhere_stays is) ∙ d in
      absurd (cc)

  -- a block ends with a suspend, also where it is passed on to another coroutine
  saved_token : (i : Instr) (r : ℕ) → token_in i ≡ Some r → suspends i ≡ true
  saved_token (Instr.Call q must_tail ty (Callee.Intrinsic Intrinsic.CoroSuspend) args) r e = refl
  saved_token _ r e = absurd (cc)

  pub ends_suspended : (i : Instr) (is : List Instr) → cut_at s part i is ≡ Cut.Suspends → suspends i ≡ true
  ends_suspended (Instr.Call r must_tail ty (Callee.Intrinsic Intrinsic.CoroSuspend) args) is e = refl
  ends_suspended (Instr.Call r must_tail ty (Callee.Intrinsic Intrinsic.CoroSave) args) is e = absurd (on (number_of_save s r) e)
    where
      on : (o : Option ℕ) → marks_save s o ≡ Cut.Suspends → ⊥
      on None e = absurd (cc)
      on (Some j) e = absurd (cc)
  ends_suspended (Instr.Call r must_tail ty (Callee.Intrinsic Intrinsic.CoroEnd) args) is e = absurd (on (goes_on part) e)
    where
      on : (b : Bool) → (if b then Cut.Returns else Cut.Stays) ≡ Cut.Suspends → ⊥
      on true e = absurd (cc)
      on false e = absurd (cc)
  ends_suspended (Instr.Call r must_tail ty (Callee.Intrinsic Intrinsic.CoroResume) args) is e = absurd (on (goes_on part) (next_suspend s is) e)
    where
      moves : (o : Option ℕ) → transfers o ≡ Cut.Suspends → ⊥
      moves None e = absurd (cc)
      moves (Some j) e = absurd (cc)

      on : (b : Bool) (o : Option ℕ) → (if b then transfers o else Cut.Stays) ≡ Cut.Suspends → ⊥
      on true o e = moves o e
      on false o e = absurd (cc)
  ends_suspended _ is e = absurd (cc)

  by_token : (j : ℕ) (i : Instr) (o : Option ℕ) → token_in i ≡ o → number_of_save s o ≡ Some j → suspends i ≡ true
  by_token j i None e d = absurd (cc)
  by_token j i (Some r) e d = saved_token i r e

  next_is : (j : ℕ) (is : List Instr) → next_suspend s is ≡ Some j → NoSuspends is → ⊥
  next_is j [] e none = absurd (cc)
  next_is j (i ∷ is) e none = let both : true ≡ false = sym (by_token j i (token_in i) refl e) ∙ none.0 in absurd (cc)

  pub passes_on : (j : ℕ) (i : Instr) (is : List Instr) → cut_at s part i is ≡ Cut.Transfers j → NoSuspends is → ⊥
  passes_on j (Instr.Call r must_tail ty (Callee.Intrinsic Intrinsic.CoroResume) args) is e none = on (goes_on part) (next_suspend s is) refl e
    where
      moves : (o : Option ℕ) → next_suspend s is ≡ o → transfers o ≡ Cut.Transfers j → ⊥
      moves None d e = absurd (cc)
      moves (Some k) d e = next_is k is d none

      on : (b : Bool) (o : Option ℕ) → next_suspend s is ≡ o → (if b then transfers o else Cut.Stays) ≡ Cut.Transfers j → ⊥
      on true o d e = moves o d e
      on false o d e = absurd (cc)
  passes_on j (Instr.Call r must_tail ty (Callee.Intrinsic Intrinsic.CoroSave) args) is e none = on (number_of_save s r) e
    where
      on : (o : Option ℕ) → marks_save s o ≡ Cut.Transfers j → ⊥
      on None e = absurd (cc)
      on (Some k) e = absurd (cc)
  passes_on j (Instr.Call r must_tail ty (Callee.Intrinsic Intrinsic.CoroEnd) args) is e none = on (goes_on part) e
    where
      on : (b : Bool) → (if b then Cut.Returns else Cut.Stays) ≡ Cut.Transfers j → ⊥
      on true e = absurd (cc)
      on false e = absurd (cc)
  passes_on j _ is e none = absurd (cc)

  -- the piece from which the edges of a block without a suspend come is one of its pieces
  pub piece_there : (t : Terminator) (label : ℕ) (phis : List Phi) (n last : ℕ) (is : List Instr) (cs : List Block) → ArePieces s part t label phis n is cs last → NoSuspends is → (l : ℕ) → origin_in s part (Origin.Piece label) is ≡ Origin.Piece l → (c : Block) × (IsListed c cs × (c.label ≡ l))
  piece_there t _ _ _ _ _ _ (Ends label n phis) none l o = (_, (inl refl, (let same : label ≡ l = (let e : Origin.Piece label ≡ Origin.Piece l = o in cc) in same)))
  piece_there t _ _ _ _ _ _ (Stays label n last phis i is c cs e d more) none l o =
      on (piece_there t label phis _ last is (c ∷ cs) more none.1 l (sym (origin_stays label i is e d) ∙ o))
    where
      front : Block
      front = record { label = c.label; phis = c.phis; instrs = lowered s part n i ++ c.instrs; term = c.term }

      on : (x : Block) × (IsListed x (c ∷ cs) × (x.label ≡ l)) → (x : Block) × (IsListed x (front ∷ cs) × (x.label ≡ l))
      on (x, (inl same, is_l)) = (front, (inl refl, ap label_of (sym same) ∙ is_l))
      on (x, (inr h, is_l)) = (x, (inr h, is_l))
  piece_there t _ _ _ _ _ _ (Marks label n last mark phis i is cs e d more) none l o =
      let x = piece_there t mark [] _ last is cs more none.1 l (sym (origin_marks label mark i is e d) ∙ o) in
      (x.0, (inr x.1.0, x.1.1))
  piece_there t _ _ _ _ _ _ (Suspends label n phis i is e d) none l o = let both : true ≡ false = sym (ends_suspended i is d) ∙ none.0 in absurd (cc)
  piece_there t _ _ _ _ _ _ (Returns label n phis i is e d) none l o = absurd (origin_returns label l i is e d o)
  piece_there t _ _ _ _ _ _ (Transfers label n j phis i is e d) none l o = absurd (passes_on j i is d none.1)
  piece_there t _ _ _ _ _ _ (BeginsAgain label n phis i is e) none l o = absurd (origin_begins label l i is e o)
