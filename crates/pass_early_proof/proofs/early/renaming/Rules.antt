-- A coroutine that keeps the rules is regular.
use Rattle.std.proofs.Common.{◌≡◌, ◌<◌, ℕ, suc, Bool, true, false, List, [], ◌∷◌, length, refl, sym, ap, ◌∙◌, subst}
use Rattle.std.specs.Prelude.{IsTrue, Some, None, Option, replicate, slice_get, ◌==◌, if◌then◌else◌}
use Rattle.rule_laws.proofs.ir_laws.facts.Truth.{equal_numbers}
use Rattle.rule_laws.proofs.ir_laws.facts.Lists.{get_within, flags_length as blank_length}
use Rattle.rule_laws.proofs.rules.renamed.Outside.{no_frame_before_begin}
use Rattle.pass_early_proof.proofs.early.renaming.Simulation.{other_call}
use Rattle.pass_early_proof.proofs.early.renaming.Switches.{dead_behind_suspend}
use Rattle.rule_laws.proofs.rules.renamed.Uses.{dead_at_entry}
use Rattle.pass_early_proof.specs.early.renaming.Regular.{AllKeepRules, AreRegular, IsDeadBehind, IsPlain, IsRegular, KeepsRules}
use Rattle.rule_laws.specs.ir_laws.paths.renamed.Regular.{IsDead}
use Rattle.rule_laws.specs.ir_laws.facts.renamed.Regular.{is_result, passes}
use Rattle.pass_early.specs.Early.{flagged, flagged_by, flagged_in, frame_flags, renaming_of, renaming_to}
use Rattle.pass_early.specs.Renaming.{flag_or_false, is_renamed}
use Rattle.ir_model.specs.Calls.{first_result, first_result_by, first_result_in, or_else, result_of_call}
use Rattle.ir_model.specs.Names.{same_intrinsic}
use Rattle.ir_model.specs.declared.instr.Instr.{Instr}
use Rattle.ir_model.specs.declared.instr.Phi.{Phi}
use Rattle.ir_model.specs.declared.module.Block.{Block}
use Rattle.ir_model.specs.declared.module.Function.{Function}
use Rattle.ir_model.specs.declared.module.Module.{Module}
use Rattle.ir_model.specs.declared.operand.Callee.{Callee}
use Rattle.ir_model.specs.declared.operand.Intrinsic.{Intrinsic}
use Rattle.rule_laws.specs.ir_paths.Windows.{instr_at, instr_in, is_call_of}
use Rattle.rule_laws.specs.ir_paths.declared.point.Point.{Point}
use Rattle.rule_laws.specs.run_laws.changed.Changed.{Each, result_of}
use Rattle.pass_early_proof.proofs.early.unused_frames.Flags.{same_length as flagged_length}

flags_in : (flags : List Bool) (is : List Instr) → length (flagged_in flags is) ≡ length flags
flags_in flags [] = refl
flags_in flags (i ∷ is) = flags_in (flagged flags i) is ∙ flagged_length flags i

flags_by : (flags : List Bool) (bs : List Block) → length (flagged_by flags bs) ≡ length flags
flags_by flags [] = refl
flags_by flags (b ∷ bs) = flags_by (flagged_in flags b.instrs) bs ∙ flags_in flags b.instrs

flag_within : (flags : List Bool) (n : ℕ) → flag_or_false (slice_get flags n) ≡ true → n < length flags
flag_within flags n e = on (slice_get flags n) refl e
  where
    on : (o : Option Bool) → slice_get flags n ≡ o → flag_or_false o ≡ true → n < length flags
    on None d k = absurd (cc)
    on (Some b) d k = get_within flags n b d

renamed_within : (f : Function) (n : ℕ) → is_renamed (renaming_of f) n ≡ true → n < length f.names
renamed_within f n e = on (first_result Intrinsic.CoroBegin f) e
  where
    on : (o : Option ℕ) → is_renamed (renaming_to f o) n ≡ true → n < length f.names
    on None k = absurd (cc)
    on (Some begin) k = subst (λ (l : ℕ). n < l) (flags_by (replicate (length f.names) false) f.blocks ∙ blank_length (length f.names)) (flag_within (frame_flags f) n k)

-- ---- begin stands somewhere

-- a call of begin that gives a value
pub record IsBegin (i : Instr) (n : ℕ) : Type 0 where
  pub is_call : is_call_of Intrinsic.CoroBegin i ≡ true
  pub result : result_of i ≡ Some n

pub record IsBeginAt (o : Option Instr) (n : ℕ) : Type 0 where
  pub instr : Instr
  pub stands : o ≡ Some instr
  pub begins : IsBegin instr n

is_begin : (i : Instr) (n : ℕ) → result_of_call Intrinsic.CoroBegin i ≡ Some n → IsBegin i n
is_begin (Instr.Call result must_tail ty (Callee.Intrinsic j) args) n e = on (same_intrinsic Intrinsic.CoroBegin j) refl e
  where
    on : (b : Bool) → same_intrinsic Intrinsic.CoroBegin j ≡ b → (if b then result else None) ≡ Some n → IsBegin (Instr.Call result must_tail ty (Callee.Intrinsic j) args) n
    on true d k = record { is_call = d; result = k }
    on false d k = absurd (cc)
is_begin (Instr.Call result must_tail ty (Callee.Named c) args) n e = absurd (cc)
is_begin (Instr.Call result must_tail ty (Callee.Allocator a) args) n e = absurd (cc)
is_begin (Instr.Call result must_tail ty (Callee.Local v) args) n e = absurd (cc)
is_begin (Instr.Alloca name ty align) n e = absurd (cc)
is_begin (Instr.Gep name inbounds ty base indices) n e = absurd (cc)
is_begin (Instr.Binary name op flags ty a b) n e = absurd (cc)
is_begin (Instr.Icmp name pred ty a b) n e = absurd (cc)
is_begin (Instr.Select name x a b) n e = absurd (cc)
is_begin (Instr.Cast name op nneg arg to) n e = absurd (cc)
is_begin (Instr.Load name ty q align) n e = absurd (cc)
is_begin (Instr.Store arg q align) n e = absurd (cc)

begin_in : (is : List Instr) (n : ℕ) → first_result_in Intrinsic.CoroBegin is ≡ Some n → (k : ℕ) × IsBeginAt (slice_get is k) n
begin_in [] n e = absurd (cc)
begin_in (i ∷ is) n e = on (result_of_call Intrinsic.CoroBegin i) refl (begin_in is n) e
  where
    on : (o : Option ℕ) → result_of_call Intrinsic.CoroBegin i ≡ o → (first_result_in Intrinsic.CoroBegin is ≡ Some n → (k : ℕ) × IsBeginAt (slice_get is k) n) → or_else o (first_result_in Intrinsic.CoroBegin is) ≡ Some n → (k : ℕ) × IsBeginAt (slice_get (i ∷ is) k) n
    on None d rest k = let x = rest k in (suc x.0, x.1)
    on (Some v) d rest k = (0, record { instr = i; stands = refl; begins = is_begin i n (d ∙ k) })

pub begin_by : (bs : List Block) (n : ℕ) → first_result_by Intrinsic.CoroBegin bs ≡ Some n → (k : ℕ) × ((at : ℕ) × IsBeginAt (instr_in (slice_get bs k) at) n)
begin_by [] n e = absurd (cc)
begin_by (b ∷ bs) n e = on (first_result_in Intrinsic.CoroBegin b.instrs) refl (begin_by bs n) e
  where
    on : (o : Option ℕ) → first_result_in Intrinsic.CoroBegin b.instrs ≡ o → (first_result_by Intrinsic.CoroBegin bs ≡ Some n → (k : ℕ) × ((at : ℕ) × IsBeginAt (instr_in (slice_get bs k) at) n)) → or_else o (first_result_by Intrinsic.CoroBegin bs) ≡ Some n → (k : ℕ) × ((at : ℕ) × IsBeginAt (instr_in (slice_get (b ∷ bs) k) at) n)
    on None d rest k = let x = rest k in (suc x.0, x.1)
    on (Some v) d rest k = (0, begin_in b.instrs n (d ∙ k))

-- begin's value isn't one of coro.frame
begin_stays : (func : ℕ) (f : Function) → KeepsRules func f → is_renamed (renaming_of f) (renaming_of f).to ≡ false
begin_stays func f h = on (first_result Intrinsic.CoroBegin f) refl
  where
    no_frame : (n : ℕ) → first_result Intrinsic.CoroBegin f ≡ Some n → (b : Bool) → is_renamed (renaming_of f) n ≡ b → b ≡ false
    no_frame n e true d =
        let x = begin_by f.blocks n e in
        let p : Point = record { block = x.0; at = x.1.0 } in
        let y = x.1.1 in
        let t : true ≡ false = sym (h.frame_calls p y.instr n y.stands y.begins.result d) ∙ other_call Intrinsic.CoroBegin Intrinsic.CoroFrame y.instr y.begins.is_call refl in
        absurd (cc)
    no_frame n e false d = refl

    on : (o : Option ℕ) → first_result Intrinsic.CoroBegin f ≡ o → is_renamed (renaming_of f) (renaming_of f).to ≡ false
    on None e = ap (λ (o : Option ℕ). is_renamed (renaming_to f o) (renaming_to f o).to) e
    on (Some n) e =
        let to : (renaming_of f).to ≡ n = ap (λ (o : Option ℕ). (renaming_to f o).to) e in
        no_frame (renaming_of f).to (e ∙ ap Some (sym to)) (is_renamed (renaming_of f) (renaming_of f).to) refl

-- ---- a regular coroutine

-- what isn't renamed is another than what is
others : (f : Function) (n : ℕ) → is_renamed (renaming_of f) n ≡ true → (ps : List Phi) → Each (λ p. IsPlain (renaming_of f) p.result) ps → Each (λ p. p.result ≡ n → ⊥) ps
others f n e [] h = tt
others f n e (p ∷ ps) h = ((λ same. let t : true ≡ false = sym e ∙ ap (is_renamed (renaming_of f)) (sym same) ∙ h.0.stays in absurd (cc)), others f n e ps h.1)

-- a suspend makes no value of coro.frame
suspend_unmade : (func : ℕ) (f : Function) → KeepsRules func f → (s : Point) (i : Instr) → instr_at f s ≡ Some i → is_call_of Intrinsic.CoroSuspend i ≡ true → (n : ℕ) → is_renamed (renaming_of f) n ≡ true → (o : Option ℕ) → result_of i ≡ o → is_result n o ≡ false
suspend_unmade func f h s i here is n e None d = refl
suspend_unmade func f h s i here is n e (Some k) d = on (k == n) refl
  where
    on : (b : Bool) → (k == n) ≡ b → b ≡ false
    on true c = let t : true ≡ false = sym (h.frame_calls s i n here (d ∙ ap Some (equal_numbers k n c)) e) ∙ other_call Intrinsic.CoroSuspend Intrinsic.CoroFrame i is refl in absurd (cc)
    on false c = refl

behind_suspend : (func : ℕ) (f : Function) → f.coroutine ≡ true → KeepsRules func f → (s : Point) (n : ℕ) → is_renamed (renaming_of f) n ≡ true → IsDead f true n s → (o : Option Instr) → instr_at f s ≡ o → IsTrue (passes (is_call_of Intrinsic.CoroSuspend) o) → IsDeadBehind f n s
behind_suspend func f coroutine h s n e dead None d is = absurd (cc)
behind_suspend func f coroutine h s n e dead (Some i) d is =
    dead_behind_suspend func f coroutine h.switches (renaming_of f) n s i d is (suspend_unmade func f h s i d is n e (result_of i) refl) dead

pub regular : (func : ℕ) (f : Function) → f.coroutine ≡ true → KeepsRules func f → IsRegular f (renaming_of f)
regular func f coroutine h = record {
  frame_calls = h.frame_calls;
  begin_calls = h.begin_calls;
  begins = h.begins;
  begin_stays = begin_stays func f h;
  phis = h.phis;
  has_begin = h.has_begin;
  has_frames = renamed_within f;
  dead_first = λ n e. dead_at_entry func f h.undefined_use n (λ block. others f n e _ (h.phis block)) (h.params n e) h.labels;
  no_frame_first = no_frame_before_begin func f coroutine h.outside;
  dead_behind_save = h.dead_behind_save;
  dead_behind = λ s n is e dead. behind_suspend func f coroutine h s n e dead (instr_at f s) refl is;
  promise = h.promise;
  marks = h.marks;
}

pub all_regular : (m : Module) → AllKeepRules m → AreRegular m
all_regular m h func coroutine = regular func _ coroutine (h func coroutine)
