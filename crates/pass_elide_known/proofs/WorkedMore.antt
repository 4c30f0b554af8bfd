-- The worked module keeps more.
use Rattle.std.proofs.Common.{◌≡◌, ◌+◌, ◌∙◌, ℕ, zero, suc, Bool, false, List, [], ◌∷◌, ap, arith, cond, inr, length, refl, subst, sym, if◌then◌else◌, ◌==◌}
use Rattle.std.proofs.lemmas.Bool.{ltb-true}
use Rattle.std.specs.Prelude.{None, Some, codes, pos, slice_get, unwrap_or}
use Rattle.pass_elide_known.specs.Keeping.{KeepsAside, KeepsMore, KeepsPhi, TakesPlain, is_marker}
use Rattle.pass_elide_proof.proofs.Facts.{some_none}
use Rattle.pass_elide_proof.proofs.PlacingFacts.{by_truth}
use Rattle.pass_elide_proof.proofs.PlacingWorked.{shape_none, worked_keeps}
use Rattle.pass_elide_proof.proofs.ReleasedWorked.{worked_frees}
use Rattle.pass_elide_proof.specs.Edges.{label_from, phis_at}
use Rattle.pass_elide_proof.specs.Elision.{Shape, framed, function_in, rooms}
use Rattle.pass_elide_proof.specs.Places.{instrs_of, phi_count, room_at}
use Rattle.pass_elide_proof.specs.Releasing.{HoldsOfRooms, IsFreeing}
use Rattle.pass_elide_proof.specs.Sound.{NestsNone}
use Rattle.pass_elide_proof.specs.Worked.{aside_of, the_elision, the_shape}
use Rattle.pass_elide_proof.proofs.pass_proofs.ir_laws.facts.Truth.{equal_numbers}
use Rattle.pass_elide_proof.specs.pass_proofs.frame_layout.declared.layout.Layout.{Layout}
use Rattle.pass_elide_proof.specs.pass_proofs.frame_layout.declared.layout.PlacedField.{PlacedField}
use Rattle.pass_elide_proof.specs.pass_proofs.ir_base.declared.name.Name.{Name}
use Rattle.pass_elide_proof.specs.pass_proofs.ir_model.Names.{noalloc_of}
use Rattle.pass_elide_proof.specs.pass_proofs.ir_model.Ty.{int, ptr}
use Rattle.pass_elide_proof.specs.pass_proofs.ir_model.declared.instr.Incoming.{Incoming}
use Rattle.pass_elide_proof.specs.pass_proofs.ir_model.declared.instr.Instr.{Instr}
use Rattle.pass_elide_proof.specs.pass_proofs.ir_model.declared.module.Function.{Function}
use Rattle.pass_elide_proof.specs.pass_proofs.ir_model.declared.operand.Callee.{Callee}
use Rattle.pass_elide_proof.specs.pass_proofs.ir_model.declared.operand.Operand.{Operand}
use Rattle.pass_elide_proof.specs.pass_proofs.run_framed.Framed.{given_ramp, is_frame_kind, no_layout}
use Rattle.pass_elide_proof.specs.pass_proofs.run_laws.changed.Changed.{Each}
use Rattle.pass_elide_proof.specs.pass_proofs.run_step.Step.{incoming_from}

abbrev the_coroutine : Function
the_coroutine = function_in the_elision 0

-- ---- frees, tests and blocks aside

frees_none : (func block : ℕ) → (the_elision.shape func).frees block ≡ None
frees_none zero block = refl
frees_none (suc n) block = ap (λ (x : Shape). x.frees block) (shape_none n)

tested_none : (func name : ℕ) → (the_elision.shape func).tested name ≡ None
tested_none zero name = refl
tested_none (suc n) name = ap (λ (x : Shape). x.tested name) (shape_none n)

three : KeepsAside the_elision 0 3 1
three = record {
  apart = λ e. omega (arith, e);
  many = refl;
  fetches = λ k i j e h. absurd (cc);
  waits = refl;
  frees = refl;
  once = λ j k v h i e f gives too. absurd (cc);
  once_too = λ j k v h i e f gives too. absurd (cc);
  names = inr (λ k v i e is. absurd (cc), λ k v i e is. absurd (cc));
}

asides : (func block other : ℕ) → (the_elision.shape func).aside block ≡ Some other
    → KeepsAside the_elision func block other
asides zero block other is =
    by_truth (block == 3)
    (λ yes. let same = equal_numbers block 3 yes in
    let one : Some 1 ≡ Some other = sym (ap (λ (b : Bool). if b then Some 1 else None) yes) ∙ is in
    let name : 1 ≡ other = cc in
    subst (λ (p : ℕ × ℕ). KeepsAside the_elision 0 p.0 p.1) (λ j. (sym same j, name j)) three)
    (λ no. absurd (some_none (aside_of block) other is (ap (λ (b : Bool). if b then Some 1 else None) no)))
asides (suc n) block other is =
    absurd (some_none ((the_elision.shape (suc n)).aside block) other is
    (ap (λ (x : Shape). x.aside block) (shape_none n)))

-- ---- phis

abbrev begun_from : List Incoming
begun_from =
    record { value = Operand.Null; from = 18 } ∷ record { value = Operand.Local 7; from = 19 } ∷ []

abbrev counted_from : List Incoming
counted_from =
    record { value = Operand.Local 0; from = 20 } ∷ record { value = Operand.Local 29; from = 21 } ∷ []

no_local : (v : ℕ) → Operand.Null ≡ Operand.Local v → ⊥
no_local v h = cc

no_poison : (v : ℕ) → Operand.Poison ≡ Operand.Local v → ⊥
no_poison v h = cc

one_local : (u v : ℕ) → Operand.Local u ≡ Operand.Local v → u ≡ v
one_local u v h = cc

begun_takes : (from v : ℕ) → incoming_from begun_from from ≡ Operand.Local v → TakesPlain the_shape 8 v
begun_takes from v is =
    by_truth (18 == from)
    (λ yes. absurd (no_local v (sym (ap (λ (b : Bool). if b then Operand.Null
    else (if 19 == from then Operand.Local 7 else Operand.Poison)) yes) ∙ is)))
    (λ no. after (sym (ap (λ (b : Bool). if b then Operand.Null
    else (if 19 == from then Operand.Local 7 else Operand.Poison)) no) ∙ is))
  where
    seven : TakesPlain the_shape 8 7
    seven = record { need = refl; freed = refl; tested = refl; made = λ h. refl; passed = λ h. absurd (cc) }

    after : (if 19 == from then Operand.Local 7 else Operand.Poison) ≡ Operand.Local v → TakesPlain the_shape 8 v
    after h =
        by_truth (19 == from)
        (λ yes. subst (TakesPlain the_shape 8) (one_local 7 v
        (sym (ap (λ (b : Bool). if b then Operand.Local 7 else Operand.Poison) yes) ∙ h)) seven)
        (λ no. absurd (no_poison v (sym (ap (λ (b : Bool). if b then Operand.Local 7 else Operand.Poison) no) ∙ h)))

counted_takes : (from v : ℕ) → incoming_from counted_from from ≡ Operand.Local v → TakesPlain the_shape 11 v
counted_takes from v is =
    by_truth (20 == from)
    (λ yes. subst (TakesPlain the_shape 11) (one_local 0 v
    (sym (ap (λ (b : Bool). if b then Operand.Local 0
    else (if 21 == from then Operand.Local 29 else Operand.Poison)) yes) ∙ is)) none)
    (λ no. after (sym (ap (λ (b : Bool). if b then Operand.Local 0
    else (if 21 == from then Operand.Local 29 else Operand.Poison)) no) ∙ is))
  where
    none : TakesPlain the_shape 11 0
    none =
        record { need = refl; freed = refl; tested = refl; made = λ h. absurd (cc); passed = λ h. absurd (cc) }

    last : TakesPlain the_shape 11 29
    last =
        record { need = refl; freed = refl; tested = refl; made = λ h. absurd (cc); passed = λ h. absurd (cc) }

    after : (if 21 == from then Operand.Local 29 else Operand.Poison) ≡ Operand.Local v → TakesPlain the_shape 11 v
    after h =
        by_truth (21 == from)
        (λ yes. subst (TakesPlain the_shape 11) (one_local 29 v
        (sym (ap (λ (b : Bool). if b then Operand.Local 29 else Operand.Poison) yes) ∙ h)) last)
        (λ no. absurd (no_poison v (sym (ap (λ (b : Bool). if b then Operand.Local 29 else Operand.Poison) no) ∙ h)))

begun_phi : (from : ℕ) → KeepsPhi the_elision 0 from (record { result = 8; ty = ptr; incoming = begun_from })
begun_phi from = record {
  low = ltb-true 8 (length the_coroutine.names) refl;
  answers = record { need = refl; freed = refl; tested = refl };
  takes = begun_takes from;
}

counted_phi : (from : ℕ) → KeepsPhi the_elision 0 from (record { result = 11; ty = int 32; incoming = counted_from })
counted_phi from = record {
  low = ltb-true 11 (length the_coroutine.names) refl;
  answers = record { need = refl; freed = refl; tested = refl };
  takes = counted_takes from;
}

each_phi : (from to : ℕ) → Each (KeepsPhi the_elision 0 from) (phis_at the_coroutine to)
each_phi from zero = tt
each_phi from (suc zero) = tt
each_phi from (suc (suc zero)) = tt
each_phi from (suc (suc (suc zero))) = tt
each_phi from (suc (suc (suc (suc zero)))) = (begun_phi from, tt)
each_phi from (suc (suc (suc (suc (suc zero))))) = tt
each_phi from (suc (suc (suc (suc (suc (suc zero)))))) = (counted_phi from, tt)
each_phi from (suc (suc (suc (suc (suc (suc (suc zero))))))) = tt
each_phi from (suc (suc (suc (suc (suc (suc (suc (suc zero)))))))) = tt
each_phi from (suc (suc (suc (suc (suc (suc (suc (suc (suc zero))))))))) = tt
each_phi from (suc (suc (suc (suc (suc (suc (suc (suc (suc (suc zero)))))))))) = tt
each_phi from (suc (suc (suc (suc (suc (suc (suc (suc (suc (suc (suc k))))))))))) = tt

phis : (func from to : ℕ) → Each (KeepsPhi the_elision func from) (phis_at (function_in the_elision func) to)
phis zero from to = each_phi from to
phis (suc zero) from zero = tt
phis (suc zero) from (suc k) = tt
phis (suc (suc n)) from to = tt

-- ---- first instructions

abbrev first_alloca : Instr
first_alloca = Instr.Alloca 24 (int 32) 4

abbrev first_call : Instr
first_call =
    Instr.Call (Some 1) false (Some ptr) (Callee.Named (Name.Text (codes "g")))
    (record { ty = int 32; value = Operand.Number (pos 4) } ∷ [])

unmarked : (func : ℕ) (i : Instr) → slice_get (instrs_of (function_in the_elision func) 0) 0 ≡ Some i
    → is_marker i ≡ false
unmarked zero i is = let same : first_alloca ≡ i = cc in sym (ap is_marker same)
unmarked (suc zero) i is = let same : first_call ≡ i = cc in sym (ap is_marker same)
unmarked (suc (suc n)) i is = absurd (cc)

-- ---- rooms

frees : HoldsOfRooms (IsFreeing the_elision) the_elision
frees zero block at callee result must_tail ty n args r there room is =
    absurd (some_none (room_at (rooms the_elision 0) the_coroutine block at
    (Instr.Call result must_tail ty (Callee.Named n) args)) r room
    ((worked_keeps.wakes 0 refl).none block (phi_count the_coroutine block + at)
    (Instr.Call result must_tail ty (Callee.Named n) args)))
frees (suc zero) zero zero callee result must_tail ty n args r there room is =
    let one : Name.Text (codes "g") ≡ n = cc in
    let ramp : Some 0 ≡ Some callee = ap (λ (m : Name). given_ramp the_elision.code (noalloc_of m)) one ∙ is in
    let same : 0 ≡ callee = cc in
    subst (IsFreeing the_elision) same worked_frees
frees (suc zero) zero (suc zero) callee result must_tail ty n args r there room is = absurd (cc)
frees (suc zero) zero (suc (suc zero)) callee result must_tail ty n args r there room is = absurd (cc)
frees (suc zero) zero (suc (suc (suc k))) callee result must_tail ty n args r there room is = absurd (cc)
frees (suc zero) (suc block) at callee result must_tail ty n args r there room is = absurd (cc)
frees (suc (suc k)) block at callee result must_tail ty n args r there room is = absurd (cc)

-- ---- layouts

abbrev the_layout : Layout
the_layout = unwrap_or (slice_get the_elision.layouts.coroutines 0) (no_layout 0)

abbrev Fields : ℕ → Bool → Type 0
Fields func b =
    Each (λ (y : PlacedField). is_frame_kind y.kind ≡ false)
    (unwrap_or (cond b (Some the_layout) None) (no_layout func)).fields

nests : NestsNone (framed the_elision)
nests func =
    by_truth (0 == func) (λ yes. subst (Fields func) (sym yes) (refl, (refl, tt)))
    (λ no. subst (Fields func) (sym no) tt)

-- ---- the module

pub worked_more : KeepsMore the_elision
worked_more = record {
  freeing = λ func block other is.
      absurd (some_none ((the_elision.shape func).frees block) other is (frees_none func block));
  tests = λ func block at name pred ty a b is_eq there is.
      absurd (some_none ((the_elision.shape func).tested name) is_eq is (tested_none func name));
  asides = asides;
  phis = λ func block at to i there suspends. phis func (label_from (function_in the_elision func) block) to;
  unmarked = unmarked;
  frees = frees;
  nests = nests;
}
