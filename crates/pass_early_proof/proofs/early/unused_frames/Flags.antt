-- Each value that coro.frame makes has its flag.
use Rattle.std.proofs.Common.{◌≡◌, inl, inr, ℕ, zero, suc, ◌<◌, Bool, true, false, List, [], ◌∷◌, ◌++◌, length, refl, sym, ap, ◌∙◌, subst, arith}
use Rattle.std.specs.Prelude.{None, Option, Some, map, replicate, slice_get, slice_set}
use Rattle.pass_early.specs.BeginName.{begin_name, if_unnamed, named_block, named_instr}
use Rattle.pass_early.specs.Early.{flagged, flagged_by, flagged_in, frame_flags, renaming_of, renaming_to}
use Rattle.pass_early.specs.Renaming.{flag_or_false, is_renamed}
use Rattle.rule_laws.specs.flow_solver.Paths.{IsListed}
use Rattle.rule_laws.specs.ir_parts.Contents.{result_of}
use Rattle.ir_model.specs.Calls.{first_result}
use Rattle.ir_model.specs.declared.instr.Instr.{Instr}
use Rattle.ir_model.specs.declared.module.Block.{Block}
use Rattle.ir_model.specs.declared.module.Function.{Function}
use Rattle.ir_model.specs.declared.operand.Callee.{Callee}
use Rattle.ir_model.specs.declared.operand.Intrinsic.{Intrinsic}
use Rattle.rule_laws.specs.ir_paths.Windows.{is_call_of}
use Rattle.rule_laws.proofs.ir_laws.facts.Lists.{flags_length as as_many, one_longer}

-- a call of coro.frame that makes the value
pub record IsFrame (v : ℕ) (i : Instr) : Type 0 where
  pub calls : is_call_of Intrinsic.CoroFrame i ≡ true
  pub makes : result_of i ≡ Some v

-- ---- flags that are set stay

abbrev is_flagged : List Bool → ℕ → Bool
is_flagged flags n = flag_or_false (slice_get flags n)

set_there : (flags : List Bool) (n : ℕ) → n < length flags → is_flagged (slice_set flags n true) n ≡ true
set_there [] n low = absurd (omega (arith, low))
set_there (b ∷ flags) zero low = refl
set_there (b ∷ flags) (suc n) low = set_there flags n (omega (arith, low))

set_stays : (flags : List Bool) (k n : ℕ) → is_flagged flags n ≡ true → is_flagged (slice_set flags k true) n ≡ true
set_stays [] k n h = absurd (cc)
set_stays (b ∷ flags) zero zero h = refl
set_stays (b ∷ flags) zero (suc n) h = h
set_stays (b ∷ flags) (suc k) zero h = h
set_stays (b ∷ flags) (suc k) (suc n) h = set_stays flags k n h

set_length : (flags : List Bool) (k : ℕ) → length (slice_set flags k true) ≡ length flags
set_length [] k = refl
set_length (b ∷ flags) zero = refl
set_length (b ∷ flags) (suc k) = ap suc (set_length flags k)

-- ---- one instruction

stays : (flags : List Bool) (i : Instr) (n : ℕ) → is_flagged flags n ≡ true → is_flagged (flagged flags i) n ≡ true
stays flags (Instr.Call (Some k) must_tail ty (Callee.Intrinsic Intrinsic.CoroFrame) args) n h = set_stays flags k n h
stays flags _ n h = h

pub same_length : (flags : List Bool) (i : Instr) → length (flagged flags i) ≡ length flags
same_length flags (Instr.Call (Some k) must_tail ty (Callee.Intrinsic Intrinsic.CoroFrame) args) = set_length flags k
same_length flags _ = refl

of_call : (flags : List Bool) (k v : ℕ) → Some k ≡ Some v → v < length flags → is_flagged (slice_set flags k true) v ≡ true
of_call flags k v e low = let same : k ≡ v = cc in subst (λ (n : ℕ). is_flagged (slice_set flags n true) v ≡ true) (sym same) (set_there flags v low)

none_made : (v : ℕ) → None ≡ Some v → {A : Type 0} → A
none_made v e = absurd (cc)

set_by : (flags : List Bool) (i : Instr) (v : ℕ) → is_call_of Intrinsic.CoroFrame i ≡ true → result_of i ≡ Some v → v < length flags → is_flagged (flagged flags i) v ≡ true
set_by flags (Instr.Call (Some k) must_tail ty (Callee.Intrinsic Intrinsic.CoroFrame) args) v c e low = of_call flags k v e low
set_by flags (Instr.Call None must_tail ty (Callee.Intrinsic Intrinsic.CoroFrame) args) v c e low = none_made v e
set_by flags _ v c e low = absurd (cc)

-- ---- all of them

instrs_stay : (flags : List Bool) (is : List Instr) (n : ℕ) → is_flagged flags n ≡ true → is_flagged (flagged_in flags is) n ≡ true
instrs_stay flags [] n h = h
instrs_stay flags (i ∷ is) n h = instrs_stay (flagged flags i) is n (stays flags i n h)

instrs_length : (flags : List Bool) (is : List Instr) → length (flagged_in flags is) ≡ length flags
instrs_length flags [] = refl
instrs_length flags (i ∷ is) = instrs_length (flagged flags i) is ∙ same_length flags i

instrs_set : (flags : List Bool) (is : List Instr) (v : ℕ) (i : Instr) → IsListed i is → IsFrame v i → v < length flags → is_flagged (flagged_in flags is) v ≡ true
instrs_set flags [] v i l h low = absurd l
instrs_set flags (j ∷ is) v i (inl e) h low = let here = subst (IsFrame v) e h in instrs_stay (flagged flags j) is v (set_by flags j v here.calls here.makes low)
instrs_set flags (j ∷ is) v i (inr l) h low = instrs_set (flagged flags j) is v i l h (subst (λ (n : ℕ). v < n) (sym (same_length flags j)) low)

blocks_stay : (flags : List Bool) (bs : List Block) (n : ℕ) → is_flagged flags n ≡ true → is_flagged (flagged_by flags bs) n ≡ true
blocks_stay flags [] n h = h
blocks_stay flags (b ∷ bs) n h = blocks_stay (flagged_in flags b.instrs) bs n (instrs_stay flags b.instrs n h)

blocks_set : (flags : List Bool) (bs : List Block) (v : ℕ) (b : Block) (i : Instr) → IsListed b bs → IsListed i b.instrs → IsFrame v i → v < length flags → is_flagged (flagged_by flags bs) v ≡ true
blocks_set flags [] v b i at l h low = absurd at
blocks_set flags (c ∷ bs) v b i (inl e) l h low = blocks_stay (flagged_in flags c.instrs) bs v (instrs_set flags c.instrs v i (subst (λ (x : Block). IsListed i x.instrs) e l) h low)
blocks_set flags (c ∷ bs) v b i (inr at) l h low = blocks_set (flagged_in flags c.instrs) bs v b i at l h (subst (λ (n : ℕ). v < n) (sym (instrs_length flags c.instrs)) low)

-- ---- a begin that gets a name changes no flag

one_named : (n : ℕ) (flags : List Bool) (i : Instr) → flagged flags (named_instr n i) ≡ flagged flags i
one_named n flags (Instr.Call None must_tail ty (Callee.Intrinsic Intrinsic.CoroBegin) args) = refl
one_named n flags (Instr.Call (Some k) must_tail ty (Callee.Intrinsic Intrinsic.CoroBegin) args) = refl
one_named n flags (Instr.Call result must_tail ty (Callee.Intrinsic x) args) = refl
one_named n flags (Instr.Call result must_tail ty (Callee.Named x) args) = refl
one_named n flags (Instr.Call result must_tail ty (Callee.Allocator a) args) = refl
one_named n flags (Instr.Call result must_tail ty (Callee.Local v) args) = refl
one_named n flags _ = refl

instrs_named : (n : ℕ) (flags : List Bool) (is : List Instr) → flagged_in flags (map (named_instr n) is) ≡ flagged_in flags is
instrs_named n flags [] = refl
instrs_named n flags (i ∷ is) = ap (λ (x : List Bool). flagged_in x (map (named_instr n) is)) (one_named n flags i) ∙ instrs_named n (flagged flags i) is

blocks_named : (n : ℕ) (flags : List Bool) (bs : List Block) → flagged_by flags (map (named_block n) bs) ≡ flagged_by flags bs
blocks_named n flags [] = refl
blocks_named n flags (b ∷ bs) = ap (λ (x : List Bool). flagged_by x (map (named_block n) bs)) (instrs_named n flags b.instrs) ∙ blocks_named n (flagged_in flags b.instrs) bs

longer : (f : Function) (v : ℕ) → v < length f.names → v < length (f.names ++ begin_name ∷ [])
longer f v low = let more : length (f.names ++ begin_name ∷ []) ≡ suc (length f.names) = one_longer f.names begin_name in omega (arith, more, low)

frame_flag : (f : Function) (o : Option ℕ) (v : ℕ) (b : Block) (i : Instr) → IsListed b f.blocks → IsListed i b.instrs → IsFrame v i → v < length f.names → is_flagged (frame_flags (if_unnamed o f)) v ≡ true
frame_flag f None v b i at l h low =
    let n : ℕ = length (f.names ++ begin_name ∷ []) in
    ap (λ (x : List Bool). is_flagged x v) (blocks_named (length f.names) (replicate n false) f.blocks)
    ∙ blocks_set (replicate n false) f.blocks v b i at l h (subst (λ (x : ℕ). v < x) (sym (as_many n)) (longer f v low))
frame_flag f (Some n) v b i at l h low = blocks_set (replicate (length f.names) false) f.blocks v b i at l h (subst (λ (x : ℕ). v < x) (sym (as_many (length f.names))) low)

-- what coro.frame makes is renamed, where begin's value has a name
pub frame_renamed : (f : Function) (o : Option ℕ) (begin : ℕ) → first_result Intrinsic.CoroBegin (if_unnamed o f) ≡ Some begin → (v : ℕ) (b : Block) (i : Instr) → IsListed b f.blocks → IsListed i b.instrs → IsFrame v i → v < length f.names → is_renamed (renaming_of (if_unnamed o f)) v ≡ true
frame_renamed f o begin named v b i at l h low = ap (λ (x : Option ℕ). is_renamed (renaming_to (if_unnamed o f) x) v) named ∙ frame_flag f o v b i at l h low
