-- Which instructions make the values of coro.frame and begin's value.
use Rattle.std.proofs.Common.{◌≡◌, ◌⊎◌, inl, inr, ⊎_elim, ℕ, zero, suc, Bool, true, false, List, [], ◌∷◌, length, refl, sym, ap, ◌∙◌, subst}
use Rattle.std.specs.Prelude.{Some, None, Option, replicate, slice_get, slice_set, ◌==◌}
use Rattle.rule_laws.proofs.ir_laws.facts.Truth.{equal_numbers, not_equal}
use Rattle.rule_laws.proofs.ir_laws.facts.Lists.{set_other, phi_names}
use Rattle.pass_early_proof.proofs.early.renaming.Rules.{begin_by}
use Rattle.pass_early_proof.specs.early.renaming.Regular.{IsPlain}
use Rattle.pass_early.specs.Early.{flagged, flagged_by, flagged_in, frame_flags, renaming_of, renaming_to}
use Rattle.pass_early.specs.Renaming.{flag_or_false, is_renamed}
use Rattle.rule_laws.specs.flow_solver.Paths.{IsListed}
use Rattle.rule_laws.specs.rule_uses.Undefined.{params_of}
use Rattle.rule_laws.proofs.rules.source_rules.Locals.{no_param, no_phi, same_instr}
use Rattle.rule_laws.specs.ir_parts.Locals.{locals_of}
use Rattle.ir_model.specs.Calls.{first_result}
use Rattle.ir_model.specs.declared.instr.Instr.{Instr}
use Rattle.ir_model.specs.declared.instr.Phi.{Phi}
use Rattle.ir_model.specs.declared.module.Block.{Block}
use Rattle.ir_model.specs.declared.module.Function.{Function}
use Rattle.ir_model.specs.declared.operand.Callee.{Callee}
use Rattle.ir_model.specs.declared.operand.Intrinsic.{Intrinsic}
use Rattle.rule_laws.specs.ir_paths.Windows.{instr_at, instr_in, is_call_of}
use Rattle.rule_laws.specs.ir_paths.declared.point.Point.{Point}
use Rattle.rule_laws.specs.rule_names.Definitions.{first_twice}
use Rattle.rule_laws.specs.run_step.Step.{phis_of}
use Rattle.rule_laws.specs.run_laws.changed.Changed.{Each, result_of}
use Rattle.rule_laws.proofs.ir_laws.paths.source_rules.Makers.{HasFrame}

-- ---- flags

-- a call of coro.frame that gives the value
pub record IsFrame (i : Instr) (n : ℕ) : Type 0 where
  pub is_call : is_call_of Intrinsic.CoroFrame i ≡ true
  pub result : result_of i ≡ Some n

abbrev is_flagged : List Bool → ℕ → Bool
is_flagged flags n = flag_or_false (slice_get flags n)

by_frame : (flags : List Bool) (k n : ℕ) (i : Instr) → is_call_of Intrinsic.CoroFrame i ≡ true → result_of i ≡ Some k → is_flagged (slice_set flags k true) n ≡ true → (is_flagged flags n ≡ true) ⊎ IsFrame i n
by_frame flags k n i call e h = on (k == n) refl
  where
    on : (b : Bool) → (k == n) ≡ b → (is_flagged flags n ≡ true) ⊎ IsFrame i n
    on true d = inr (record { is_call = call; result = e ∙ ap Some (equal_numbers k n d) })
    on false d = inl (ap flag_or_false (sym (set_other flags k n true (not_equal k n d))) ∙ h)

by_instr : (flags : List Bool) (i : Instr) (n : ℕ) → is_flagged (flagged flags i) n ≡ true → (is_flagged flags n ≡ true) ⊎ IsFrame i n
by_instr flags (Instr.Call (Some k) must_tail ty (Callee.Intrinsic Intrinsic.CoroFrame) args) n h = by_frame flags k n (Instr.Call (Some k) must_tail ty (Callee.Intrinsic Intrinsic.CoroFrame) args) refl refl h
by_instr flags _ n h = inl h

record IsFrameAt (o : Option Instr) (n : ℕ) : Type 0 where
  instr : Instr
  stands : o ≡ Some instr
  makes : IsFrame instr n

by_instrs : (flags : List Bool) (is : List Instr) (n : ℕ) → is_flagged (flagged_in flags is) n ≡ true → (is_flagged flags n ≡ true) ⊎ ((k : ℕ) × IsFrameAt (slice_get is k) n)
by_instrs flags [] n h = inl h
by_instrs flags (i ∷ is) n h = ⊎_elim
    (λ before. ⊎_elim (λ old. inl old) (λ new. inr (0, record { instr = i; stands = refl; makes = new })) (by_instr flags i n before))
    (λ later. inr (suc later.0, later.1))
    (by_instrs (flagged flags i) is n h)

by_blocks : (flags : List Bool) (bs : List Block) (n : ℕ) → is_flagged (flagged_by flags bs) n ≡ true → (is_flagged flags n ≡ true) ⊎ ((k : ℕ) × ((at : ℕ) × IsFrameAt (instr_in (slice_get bs k) at) n))
by_blocks flags [] n h = inl h
by_blocks flags (b ∷ bs) n h = ⊎_elim
    (λ before. ⊎_elim (λ old. inl old) (λ new. inr (0, new)) (by_instrs flags b.instrs n before))
    (λ later. inr (suc later.0, later.1))
    (by_blocks (flagged_in flags b.instrs) bs n h)

no_flag : (m n : ℕ) → is_flagged (replicate m false) n ≡ false
no_flag zero n = refl
no_flag (suc m) zero = refl
no_flag (suc m) (suc n) = no_flag m n

frame_of : (f : Function) (n : ℕ) → is_flagged (frame_flags f) n ≡ true → HasFrame f n
frame_of f n h = ⊎_elim
    (λ old. let t : true ≡ false = sym old ∙ no_flag (length f.names) n in absurd (cc))
    (λ x. record { point = record { block = x.0; at = x.1.0 }; instr = x.1.1.instr; stands = x.1.1.stands; is_call = x.1.1.makes.is_call; result = x.1.1.makes.result })
    (by_blocks (replicate (length f.names) false) f.blocks n h)

-- what is renamed is made by a coro.frame
pub renamed_frame : (f : Function) (n : ℕ) → is_renamed (renaming_of f) n ≡ true → HasFrame f n
renamed_frame f n h = on (first_result Intrinsic.CoroBegin f) h
  where
    on : (o : Option ℕ) → is_renamed (renaming_to f o) n ≡ true → HasFrame f n
    on None k = absurd (cc)
    on (Some begin) k = frame_of f n k

-- what no coro.frame makes isn't renamed
pub stays : (f : Function) (n : ℕ) → (HasFrame f n → ⊥) → is_renamed (renaming_of f) n ≡ false
stays f n none = on (is_renamed (renaming_of f) n) refl
  where
    on : (b : Bool) → is_renamed (renaming_of f) n ≡ b → b ≡ false
    on true h = absurd (none (renamed_frame f n h))
    on false h = refl

-- ---- begin

pub record HasBegin (f : Function) (n : ℕ) : Type 0 where
  pub point : Point
  pub instr : Instr
  pub stands : instr_at f point ≡ Some instr
  pub is_call : is_call_of Intrinsic.CoroBegin instr ≡ true
  pub result : result_of instr ≡ Some n

pub begin_of : (f : Function) (n : ℕ) → first_result Intrinsic.CoroBegin f ≡ Some n → HasBegin f n
begin_of f n e =
    let x = begin_by f.blocks n e in
    record { point = record { block = x.0; at = x.1.0 }; instr = x.1.1.instr; stands = x.1.1.stands; is_call = x.1.1.begins.is_call; result = x.1.1.begins.result }

pub to_is : (f : Function) (n : ℕ) → first_result Intrinsic.CoroBegin f ≡ Some n → (renaming_of f).to ≡ n
to_is f n e = ap (λ (o : Option ℕ). (renaming_to f o).to) e

-- ---- names are defined once

module _ (func : ℕ) (f : Function) (once : first_twice [] (locals_of func f) ≡ None) where
  pub frame_calls : (p : Point) (i : Instr) (n : ℕ) → instr_at f p ≡ Some i → result_of i ≡ Some n → is_renamed (renaming_of f) n ≡ true → is_call_of Intrinsic.CoroFrame i ≡ true
  frame_calls p i n there e h =
      let x = renamed_frame f n h in
      ap (is_call_of Intrinsic.CoroFrame) (same_instr func f once p x.point i x.instr n there x.stands e x.result) ∙ x.is_call

  -- what another instruction makes no coro.frame makes
  pub not_frame : (p : Point) (i : Instr) (n : ℕ) → instr_at f p ≡ Some i → result_of i ≡ Some n → is_call_of Intrinsic.CoroFrame i ≡ false → HasFrame f n → ⊥
  not_frame p i n there e other x =
      let t : true ≡ false = sym x.is_call ∙ ap (is_call_of Intrinsic.CoroFrame) (sym (same_instr func f once p x.point i x.instr n there x.stands e x.result)) ∙ other in
      absurd (cc)

  pub params : (n : ℕ) → is_renamed (renaming_of f) n ≡ true → IsListed n (params_of f) → ⊥
  params n h listed = let x = renamed_frame f n h in no_param func f once x.point x.instr n x.stands x.result listed

  module _ (begin : ℕ) (named : first_result Intrinsic.CoroBegin f ≡ Some begin) where
    pub begin_calls : (p : Point) (i : Instr) → instr_at f p ≡ Some i → result_of i ≡ Some (renaming_of f).to → is_call_of Intrinsic.CoroBegin i ≡ true
    begin_calls p i there e =
        let x = begin_of f begin named in
        ap (is_call_of Intrinsic.CoroBegin) (same_instr func f once p x.point i x.instr begin there x.stands (e ∙ ap Some (to_is f begin named)) x.result) ∙ x.is_call

    plain_phi : (block : ℕ) (b : Block) (v : ℕ) → slice_get f.blocks block ≡ Some b → IsListed v (phi_names b.phis) → IsPlain (renaming_of f) v
    plain_phi block b v there listed = record { stays = stays (is_renamed (renaming_of f) v) refl; is_other = other (v == (renaming_of f).to) refl }
      where
        stays : (t : Bool) → is_renamed (renaming_of f) v ≡ t → t ≡ false
        stays true h = let x = renamed_frame f v h in absurd (no_phi func f once block b x.point x.instr v there listed x.stands x.result)
        stays false h = refl

        other : (t : Bool) → (v == (renaming_of f).to) ≡ t → t ≡ false
        other true h =
            let x = begin_of f begin named in
            let same : v ≡ begin = equal_numbers v (renaming_of f).to h ∙ to_is f begin named in
            absurd (no_phi func f once block b x.point x.instr begin there (subst (λ (n : ℕ). IsListed n (phi_names b.phis)) same listed) x.stands x.result)
        other false h = refl

    plain_phis : (block : ℕ) (b : Block) → slice_get f.blocks block ≡ Some b → (ps : List Phi) → ((v : ℕ) → IsListed v (phi_names ps) → IsListed v (phi_names b.phis)) → Each (λ p. IsPlain (renaming_of f) p.result) ps
    plain_phis block b there [] all = tt
    plain_phis block b there (p ∷ ps) all = (plain_phi block b p.result there (all p.result (inl refl)), plain_phis block b there ps (λ v h. all v (inr h)))

    pub phis : (block : ℕ) → Each (λ p. IsPlain (renaming_of f) p.result) (phis_of (slice_get f.blocks block))
    phis block = on (slice_get f.blocks block) refl
      where
        on : (o : Option Block) → slice_get f.blocks block ≡ o → Each (λ p. IsPlain (renaming_of f) p.result) (phis_of o)
        on None e = tt
        on (Some b) e = plain_phis block b e b.phis (λ v h. h)
