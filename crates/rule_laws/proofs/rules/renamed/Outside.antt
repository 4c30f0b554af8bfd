-- A coro.frame that no path reaches without begin (rule K5): no path from the entry leads to one but behind a begin.
use Rattle.std.proofs.Common.{◌≡◌, inl, inr, ℕ, zero, suc, ◌+◌, ◌-◌, Bool, true, false, List, [], ◌∷◌, ◌++◌, length, refl, sym, ap, ◌∙◌, subst, arith}
use Rattle.std.specs.Prelude.{IsTrue, IsFalse, Some, None, Option, slice_get}
use Rattle.ir_laws.specs.ir_base.declared.outcome.Place.{Place}
use Rattle.ir_laws.specs.paths.renamed.Regular.{Ahead, HasNoFrame, Here, Next, entry, is_call_at}
use Rattle.ir_laws.specs.facts.renamed.Regular.{passes}
use Rattle.ir_parts.specs.Parts.{OfInstr, Part, block_parts, blocks_parts, instr_parts, instr_place, parts_of, phi_parts}
use Rattle.ir_laws.specs.ir_model.declared.instr.Instr.{Instr}
use Rattle.ir_laws.specs.ir_model.declared.module.Block.{Block}
use Rattle.ir_laws.specs.ir_model.declared.module.Function.{Function}
use Rattle.ir_laws.specs.ir_model.declared.operand.Callee.{Callee}
use Rattle.ir_laws.specs.ir_model.declared.operand.Intrinsic.{Intrinsic}
use Rattle.ir_laws.specs.ir_paths.Paths.{Leads, has_point, nexts}
use Rattle.ir_laws.specs.ir_paths.Windows.{instr_at, instr_in, is_call_of}
use Rattle.ir_laws.specs.ir_paths.declared.point.Point.{Point}
use Rattle.ir_laws.specs.run_laws.changed.Changed.{Each}
use Rattle.rule_windows.specs.First.{IsFirst}
use Rattle.rule_windows.specs.Outside.{BreaksOutside, IsFirstOutside, needs_begin}
use Rattle.rule_windows.specs.Points.{begins, phi_count, phis_in, point_of}
use Rattle.rule_windows.specs.Sets.{IsWithoutBegin}
use Rattle.ir_laws.proofs.paths.renamed.Kept.{frame_no_begin}
use Rattle.ir_laws.proofs.paths.renamed.Outside.{where_none}

-- ---- parts of a function

pub none_breaks : {A : Type 0} (P : A → Type 0) (place : A → Place) (xs : List A) → IsFirst P place xs None → Each (λ x. P x → ⊥) xs
none_breaks P place [] h = tt
none_breaks P place (x ∷ xs) (inl h) = absurd (cc)
none_breaks P place (x ∷ xs) (inr h) = (h.0, none_breaks P place xs h.1)

pub each_left : {A : Type 0} (P : A → Type 0) (xs ys : List A) → Each P (xs ++ ys) → Each P xs
each_left P [] ys h = tt
each_left P (x ∷ xs) ys h = (h.0, each_left P xs ys h.1)

pub each_right : {A : Type 0} (P : A → Type 0) (xs ys : List A) → Each P (xs ++ ys) → Each P ys
each_right P [] ys h = h
each_right P (x ∷ xs) ys h = each_right P xs ys h.1

module _ (Q : Place × Part → Type 0) (func : ℕ) where
  in_instrs : (block at : ℕ) (is : List Instr) (n : ℕ) (i : Instr) → Each Q (instr_parts func block at is) → slice_get is n ≡ Some i → Q (instr_place func block (at + n), OfInstr i)
  in_instrs block at [] n i h e = absurd (cc)
  in_instrs block at (j ∷ is) zero i h e =
      let same : at ≡ at + 0 = omega arith in
      let is_one : j ≡ i = cc in
      subst (λ (k : ℕ). Q (instr_place func block k, OfInstr i)) same (subst (λ (x : Instr). Q (instr_place func block at, OfInstr x)) is_one h.0)
  in_instrs block at (j ∷ is) (suc n) i h e =
      let same : at + 1 + n ≡ at + suc n = omega arith in
      subst (λ (k : ℕ). Q (instr_place func block k, OfInstr i)) same (in_instrs block (at + 1) is n i h.1 e)

  in_block : (block : ℕ) (b : Block) (n : ℕ) (i : Instr) → Each Q (block_parts func block b) → slice_get b.instrs n ≡ Some i → Q (instr_place func block (length b.phis + n), OfInstr i)
  unfolding block_parts
  in_block block b n i h e = in_instrs block (length b.phis) b.instrs n i (each_left Q (instr_parts func block (length b.phis) b.instrs) _ (each_right Q (phi_parts func block 0 b.phis) _ h.1)) e

  in_all : (block : ℕ) (bs : List Block) (k : ℕ) (b : Block) (n : ℕ) (i : Instr) → Each Q (blocks_parts func block bs) → slice_get bs k ≡ Some b → slice_get b.instrs n ≡ Some i → Q (instr_place func (block + k) (length b.phis + n), OfInstr i)
  in_all block [] k b n i h e d = absurd (cc)
  in_all block (c ∷ bs) zero b n i h e d =
      let same : block ≡ block + 0 = omega arith in
      let is_one : c ≡ b = cc in
      subst (λ (k : ℕ). Q (instr_place func k (length b.phis + n), OfInstr i)) same
      (in_block block b n i (subst (λ (x : Block). Each Q (block_parts func block x)) is_one (each_left Q (block_parts func block c) (blocks_parts func (block + 1) bs) h)) d)
  in_all block (c ∷ bs) (suc k) b n i h e d =
      let same : block + 1 + k ≡ block + suc k = omega arith in
      subst (λ (j : ℕ). Q (instr_place func j (length b.phis + n), OfInstr i)) same (in_all (block + 1) bs k b n i (each_right Q (block_parts func block c) (blocks_parts func (block + 1) bs) h) e d)

  -- what holds of all parts holds of the instruction at a point
  pub at_point : (f : Function) (p : Point) (i : Instr) → Each Q (parts_of func f) → instr_at f p ≡ Some i → Q (instr_place func p.block (phi_count f p.block + p.at), OfInstr i)
  at_point f p i h e = on (slice_get f.blocks p.block) refl e
    where
      on : (o : Option Block) → slice_get f.blocks p.block ≡ o → instr_in o p.at ≡ Some i → Q (instr_place func p.block (phis_in (slice_get f.blocks p.block) + p.at), OfInstr i)
      on None d k = absurd (cc)
      on (Some b) d k =
          let same : 0 + p.block ≡ p.block = omega arith in
          subst (λ (c : Option Block). Q (instr_place func p.block (phis_in c + p.at), OfInstr i)) (sym d)
          (subst (λ (j : ℕ). Q (instr_place func j (length b.phis + p.at), OfInstr i)) same (in_all 0 f.blocks p.block b p.at i h.1 d k))

pub point_there : (func : ℕ) (f : Function) (p : Point) → point_of f (instr_place func p.block (phi_count f p.block + p.at)) ≡ p
point_there func f p =
    let same : phi_count f p.block + p.at - phi_count f p.block ≡ p.at = omega arith in
    λ k. record { block = p.block; at = same k }

-- ---- paths

-- from a point on an edge before it
pub leads_on : (f : Function) (stops : Point → Bool) (avoided : List Point) (last p q : Point) → ((x : Point) → stops x ≡ false → IsFalse (has_point avoided x)) → IsTrue (has_point (nexts f p) q) → Ahead f stops last q → Leads f avoided p last
leads_on f stops avoided last p q none edge Here = record { between = []; is_path = edge }
leads_on f stops avoided last p q none edge (Next _ r e next rest) =
    let x = leads_on f stops avoided last q r none next rest in
    record { between = q ∷ x.between; is_path = (edge, none q e, x.is_path) }

frame_needs : (i : Instr) → is_call_of Intrinsic.CoroFrame i ≡ true → IsTrue (needs_begin i)
frame_needs (Instr.Call result must_tail ty (Callee.Intrinsic Intrinsic.CoroFrame) args) e = refl
frame_needs _ e = absurd (cc)

module _ (func : ℕ) (f : Function) where
  abbrev begins_at : Point → Bool
  begins_at p = is_call_at f Intrinsic.CoroBegin p

  -- a path that passes no begin
  without_begin : (last : Point) (i : Instr) → instr_at f last ≡ Some i → is_call_of Intrinsic.CoroFrame i ≡ true → Ahead f begins_at last entry → IsWithoutBegin f last
  without_begin last i here frame Here = record {
    begins_later = where_none (is_call_of Intrinsic.CoroBegin) f entry (ap (passes (is_call_of Intrinsic.CoroBegin)) here ∙ frame_no_begin i frame);
    path = inl refl;
  }
  without_begin last i here frame (Next _ q e edge rest) = record {
    begins_later = where_none (is_call_of Intrinsic.CoroBegin) f entry e;
    path = inr (record { start = entry; is_start = refl; path = leads_on f begins_at (begins f) last entry q (where_none (is_call_of Intrinsic.CoroBegin) f) edge rest });
  }

  frame_at : (last : Point) (o : Option Instr) → instr_at f last ≡ o → passes (is_call_of Intrinsic.CoroFrame) o ≡ true → (i : Instr) × ((instr_at f last ≡ Some i) × (is_call_of Intrinsic.CoroFrame i ≡ true))
  frame_at last None e h = absurd (cc)
  frame_at last (Some i) e h = (i, (e, h))

  pub no_frame_before_begin : f.coroutine ≡ true → IsFirstOutside func f None → HasNoFrame f entry
  no_frame_before_begin coroutine none last path frame =
      let x = frame_at last (instr_at f last) refl frame in
      at_point (λ y. BreaksOutside f y → ⊥) func f last x.0 (none_breaks (BreaksOutside f) (λ y. y.0) (parts_of func f) none) x.1.0
      (coroutine, inr (frame_needs x.0 x.1.1, subst (IsWithoutBegin f) (sym (point_there func f last)) (without_begin last x.0 x.1.0 x.1.1 path)))
