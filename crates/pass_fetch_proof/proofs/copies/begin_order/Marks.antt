-- Which slots are marked as used before begin, and what the tables of flags tell.
use Rattle.std.proofs.Common.{◌≡◌, ◌⊎◌, inl, inr, ⊎_elim, ℕ, zero, suc, ◌<◌, Bool, true, false, List, [], ◌∷◌, length, refl, sym, ap, ◌∙◌, subst, arith}
use Rattle.std.specs.Prelude.{None, Option, Some, replicate, slice_get, slice_set, unwrap_or, if◌then◌else◌}
use Rattle.pass_copies.specs.Uses.{flag_at, is_begin, mark, mark_addresses, mark_args, mark_blocks, mark_instr, mark_instrs, mark_operand, still_before}
use Rattle.pass_edges_proof.specs.rule_laws.rules.begin_order.Behind.{access_operands}
use Rattle.pass_edges_proof.proofs.ir_laws.facts.Lists.{get_within, set_here, set_length, set_other}
use Rattle.pass_edges_proof.specs.flow_solver.Paths.{IsListed}
use Rattle.pass_edges_proof.specs.ir_parts.Contents.{arg_operands}
use Rattle.ir_model.specs.declared.instr.Instr.{Instr}
use Rattle.ir_model.specs.declared.module.Block.{Block}
use Rattle.ir_model.specs.declared.operand.Arg.{Arg}
use Rattle.ir_model.specs.declared.operand.Callee.{Callee}
use Rattle.ir_model.specs.declared.operand.Intrinsic.{Intrinsic}
use Rattle.ir_model.specs.declared.operand.Operand.{Operand}
use Rattle.pass_edges_proof.proofs.ir_laws.facts.Truth.{is_number}

-- ---- flags

pub flag_below : (flags : List Bool) (v : ℕ) → flag_at flags v ≡ true → v < length flags
flag_below flags v e = on (slice_get flags v) refl e
  where
    on : (o : Option Bool) → slice_get flags v ≡ o → unwrap_or o false ≡ true → v < length flags
    on None d h = absurd (cc)
    on (Some b) d h = get_within flags v b d

pub flag_set : (flags : List Bool) (n : ℕ) → n < length flags → flag_at (slice_set flags n true) n ≡ true
flag_set flags n low = ap (λ (o : Option Bool). unwrap_or o false) (set_here flags n true low)

pub flag_other : (flags : List Bool) (n v : ℕ) → (n ≡ v → ⊥) → flag_at (slice_set flags n true) v ≡ flag_at flags v
flag_other flags n v h = ap (λ (o : Option Bool). unwrap_or o false) (set_other flags n v true h)

-- what was flagged stays so
pub flag_stays : (flags : List Bool) (n v : ℕ) → flag_at flags v ≡ true → flag_at (slice_set flags n true) v ≡ true
flag_stays flags n v e =
    ⊎_elim
    (λ (h : n ≡ v). subst (λ (w : ℕ). flag_at (slice_set flags n true) w ≡ true) h (flag_set flags n (let low = flag_below flags v e in omega (arith, h, low))))
    (λ h. flag_other flags n v h ∙ e)
    (is_number n v)

-- what is flagged was flagged, or is the one that was set
pub flag_back : (flags : List Bool) (n v : ℕ) → flag_at (slice_set flags n true) v ≡ true → (flag_at flags v ≡ true) ⊎ (n ≡ v)
flag_back flags n v e = ⊎_elim (λ h. inr h) (λ h. inl (sym (flag_other flags n v h) ∙ e)) (is_number n v)

pub none_flagged : (n v : ℕ) → flag_at (replicate n false) v ≡ false
none_flagged zero v = refl
none_flagged (suc n) zero = refl
none_flagged (suc n) (suc v) = none_flagged n v

-- ---- one instruction

module _ (slots : List Bool) where
  mark_length : (used : List Bool) (n : ℕ) → length (mark slots used n) ≡ length used
  mark_length used n = on (flag_at slots n)
    where
      on : (b : Bool) → length (if b then slice_set used n true else used) ≡ length used
      on true = set_length used n true
      on false = refl

  mark_stays : (used : List Bool) (n v : ℕ) → flag_at used v ≡ true → flag_at (mark slots used n) v ≡ true
  mark_stays used n v e = on (flag_at slots n)
    where
      on : (b : Bool) → flag_at (if b then slice_set used n true else used) v ≡ true
      on true = flag_stays used n v e
      on false = e

  mark_back : (used : List Bool) (n v : ℕ) → flag_at (mark slots used n) v ≡ true → (flag_at used v ≡ true) ⊎ (n ≡ v)
  mark_back used n v = on (flag_at slots n)
    where
      on : (b : Bool) → flag_at (if b then slice_set used n true else used) v ≡ true → (flag_at used v ≡ true) ⊎ (n ≡ v)
      on true e = flag_back used n v e
      on false e = inl e

  mark_here : (used : List Bool) (v : ℕ) → flag_at slots v ≡ true → v < length used → flag_at (mark slots used v) v ≡ true
  mark_here used v e low = on (flag_at slots v) e
    where
      on : (b : Bool) → b ≡ true → flag_at (if b then slice_set used v true else used) v ≡ true
      on true h = flag_set used v low
      on false h = absurd (cc)

  operand_length : (used : List Bool) (x : Operand) → length (mark_operand slots used x) ≡ length used
  operand_length used (Operand.Local n) = mark_length used n
  operand_length used _ = refl

  operand_stays : (used : List Bool) (x : Operand) (v : ℕ) → flag_at used v ≡ true → flag_at (mark_operand slots used x) v ≡ true
  operand_stays used (Operand.Local n) v e = mark_stays used n v e
  operand_stays used _ v e = e

  operand_back : (used : List Bool) (x : Operand) (v : ℕ) → flag_at (mark_operand slots used x) v ≡ true → (flag_at used v ≡ true) ⊎ (Operand.Local v ≡ x)
  operand_back used (Operand.Local n) v e = ⊎_elim (λ h. inl h) (λ h. inr (ap Operand.Local (sym h))) (mark_back used n v e)
  operand_back used _ v e = inl e

  operand_here : (used : List Bool) (x : Operand) (v : ℕ) → Operand.Local v ≡ x → flag_at slots v ≡ true → v < length used → flag_at (mark_operand slots used x) v ≡ true
  operand_here used x v e h low = subst (λ (y : Operand). flag_at (mark_operand slots used y) v ≡ true) e (mark_here used v h low)

  args_length : (used : List Bool) (args : List Arg) → length (mark_args slots used args) ≡ length used
  args_length used [] = refl
  args_length used (a ∷ args) = args_length (mark_operand slots used a.value) args ∙ operand_length used a.value

  args_stay : (used : List Bool) (args : List Arg) (v : ℕ) → flag_at used v ≡ true → flag_at (mark_args slots used args) v ≡ true
  args_stay used [] v e = e
  args_stay used (a ∷ args) v e = args_stay (mark_operand slots used a.value) args v (operand_stays used a.value v e)

  args_back : (used : List Bool) (args : List Arg) (v : ℕ) → flag_at (mark_args slots used args) v ≡ true → (flag_at used v ≡ true) ⊎ IsListed (Operand.Local v) (arg_operands args)
  args_back used [] v e = inl e
  args_back used (a ∷ args) v e =
      ⊎_elim (λ h. ⊎_elim (λ old. inl old) (λ here. inr (inl here)) (operand_back used a.value v h)) (λ h. inr (inr h))
      (args_back (mark_operand slots used a.value) args v e)

  args_here : (used : List Bool) (args : List Arg) (v : ℕ) → IsListed (Operand.Local v) (arg_operands args) → flag_at slots v ≡ true → v < length used → flag_at (mark_args slots used args) v ≡ true
  args_here used [] v l h low = absurd l
  args_here used (a ∷ args) v (inl e) h low = args_stay (mark_operand slots used a.value) args v (operand_here used a.value v e h low)
  args_here used (a ∷ args) v (inr l) h low = args_here (mark_operand slots used a.value) args v l h (let same = operand_length used a.value in omega (arith, same, low))

  addresses_length : (used : List Bool) (i : Instr) → length (mark_addresses slots used i) ≡ length used
  addresses_length used (Instr.Load r ty x align) = operand_length used x
  addresses_length used (Instr.Store a x align) = operand_length used x
  addresses_length used (Instr.Call r must_tail ty (Callee.Intrinsic Intrinsic.MemcpyI64) args) = args_length used args
  addresses_length used (Instr.Call r must_tail ty (Callee.Intrinsic Intrinsic.MemcpyI32) args) = args_length used args
  addresses_length used _ = refl

  addresses_stay : (used : List Bool) (i : Instr) (v : ℕ) → flag_at used v ≡ true → flag_at (mark_addresses slots used i) v ≡ true
  addresses_stay used (Instr.Load r ty x align) v e = operand_stays used x v e
  addresses_stay used (Instr.Store a x align) v e = operand_stays used x v e
  addresses_stay used (Instr.Call r must_tail ty (Callee.Intrinsic Intrinsic.MemcpyI64) args) v e = args_stay used args v e
  addresses_stay used (Instr.Call r must_tail ty (Callee.Intrinsic Intrinsic.MemcpyI32) args) v e = args_stay used args v e
  addresses_stay used _ v e = e

  addresses_back : (used : List Bool) (i : Instr) (v : ℕ) → flag_at (mark_addresses slots used i) v ≡ true → (flag_at used v ≡ true) ⊎ IsListed (Operand.Local v) (access_operands i)
  addresses_back used (Instr.Load r ty x align) v e = ⊎_elim (λ h. inl h) (λ h. inr (inl h)) (operand_back used x v e)
  addresses_back used (Instr.Store a x align) v e = ⊎_elim (λ h. inl h) (λ h. inr (inl h)) (operand_back used x v e)
  addresses_back used (Instr.Call r must_tail ty (Callee.Intrinsic Intrinsic.MemcpyI64) args) v e = args_back used args v e
  addresses_back used (Instr.Call r must_tail ty (Callee.Intrinsic Intrinsic.MemcpyI32) args) v e = args_back used args v e
  addresses_back used _ v e = inl e

  addresses_here : (used : List Bool) (i : Instr) (v : ℕ) → IsListed (Operand.Local v) (access_operands i) → flag_at slots v ≡ true → v < length used → flag_at (mark_addresses slots used i) v ≡ true
  addresses_here used (Instr.Load r ty x align) v (inl e) h low = operand_here used x v e h low
  addresses_here used (Instr.Load r ty x align) v (inr l) h low = absurd l
  addresses_here used (Instr.Store a x align) v (inl e) h low = operand_here used x v e h low
  addresses_here used (Instr.Store a x align) v (inr l) h low = absurd l
  addresses_here used (Instr.Call r must_tail ty (Callee.Intrinsic Intrinsic.MemcpyI64) args) v l h low = args_here used args v l h low
  addresses_here used (Instr.Call r must_tail ty (Callee.Intrinsic Intrinsic.MemcpyI32) args) v l h low = args_here used args v l h low
  addresses_here used _ v l h low = absurd l

-- ---- instructions in front of begin

-- an instruction that stands there accesses memory at the operand
abbrev pub IsAccessed : ℕ → List Instr → Type 0
IsAccessed v [] = ⊥
IsAccessed v (i ∷ is) = IsListed (Operand.Local v) (access_operands i) ⊎ ((is_begin i ≡ false) × IsAccessed v is)

module _ (slots : List Bool) where
  instr_length : (is_before : Bool) (used : List Bool) (i : Instr) → length (mark_instr slots is_before used i) ≡ length used
  instr_length true used i = addresses_length slots used i
  instr_length false used i = refl

  instr_stays : (is_before : Bool) (used : List Bool) (i : Instr) (v : ℕ) → flag_at used v ≡ true → flag_at (mark_instr slots is_before used i) v ≡ true
  instr_stays true used i v e = addresses_stay slots used i v e
  instr_stays false used i v e = e

  instrs_length : (is_before : Bool) (used : List Bool) (is : List Instr) → length (mark_instrs slots is_before used is) ≡ length used
  instrs_length is_before used [] = refl
  instrs_length is_before used (i ∷ is) = instrs_length (still_before is_before i) (mark_instr slots is_before used i) is ∙ instr_length is_before used i

  instrs_stay : (is_before : Bool) (used : List Bool) (is : List Instr) (v : ℕ) → flag_at used v ≡ true → flag_at (mark_instrs slots is_before used is) v ≡ true
  instrs_stay is_before used [] v e = e
  instrs_stay is_before used (i ∷ is) v e = instrs_stay (still_before is_before i) (mark_instr slots is_before used i) is v (instr_stays is_before used i v e)

  none_behind : (used : List Bool) (is : List Instr) → mark_instrs slots false used is ≡ used
  none_behind used [] = refl
  none_behind used (i ∷ is) = on (is_begin i) (none_behind used is)
    where
      on : (b : Bool) → mark_instrs slots false used is ≡ used → mark_instrs slots (if b then false else false) used is ≡ used
      on true rest = rest
      on false rest = rest

  instrs_back : (used : List Bool) (is : List Instr) (v : ℕ) → flag_at (mark_instrs slots true used is) v ≡ true → (flag_at used v ≡ true) ⊎ IsAccessed v is
  instrs_back used [] v e = inl e
  instrs_back used (i ∷ is) v e = ⊎_elim (λ h. ⊎_elim (λ old. inl old) (λ here. inr (inl here)) (addresses_back slots used i v h)) (λ h. inr (inr h)) (on (is_begin i) refl e (instrs_back (mark_addresses slots used i) is v))
    where
      on : (b : Bool) → is_begin i ≡ b → flag_at (mark_instrs slots (if b then false else true) (mark_addresses slots used i) is) v ≡ true → (flag_at (mark_instrs slots true (mark_addresses slots used i) is) v ≡ true → (flag_at (mark_addresses slots used i) v ≡ true) ⊎ IsAccessed v is) → (flag_at (mark_addresses slots used i) v ≡ true) ⊎ ((is_begin i ≡ false) × IsAccessed v is)
      on true d h rest = inl (ap (λ (flags : List Bool). flag_at flags v) (sym (none_behind (mark_addresses slots used i) is)) ∙ h)
      on false d h rest = ⊎_elim (λ old. inl old) (λ more. inr (d, more)) (rest h)

  instrs_here : (used : List Bool) (is : List Instr) (v : ℕ) → IsAccessed v is → flag_at slots v ≡ true → v < length used → flag_at (mark_instrs slots true used is) v ≡ true
  instrs_here used [] v l h low = absurd l
  instrs_here used (i ∷ is) v (inl l) h low = instrs_stay (still_before true i) (mark_addresses slots used i) is v (addresses_here slots used i v l h low)
  instrs_here used (i ∷ is) v (inr l) h low =
      on (is_begin i) l.0 (instrs_here (mark_addresses slots used i) is v l.1 h (let same = addresses_length slots used i in omega (arith, same, low)))
    where
      on : (b : Bool) → b ≡ false → flag_at (mark_instrs slots true (mark_addresses slots used i) is) v ≡ true → flag_at (mark_instrs slots (if b then false else true) (mark_addresses slots used i) is) v ≡ true
      on true e rest = absurd (cc)
      on false e rest = rest

  -- ---- blocks

  module _ (before : List Bool) where
    -- a flagged block has such an instruction
    pub record IsAccessedAt (bs : List Block) (v : ℕ) : Type 0 where
      pub at : ℕ
      pub block : Block
      pub there : slice_get bs at ≡ Some block
      pub flagged : flag_at before block.label ≡ true
      pub accessed : IsAccessed v block.instrs

    blocks_stay : (used : List Bool) (bs : List Block) (v : ℕ) → flag_at used v ≡ true → flag_at (mark_blocks slots before used bs) v ≡ true
    blocks_stay used [] v e = e
    blocks_stay used (b ∷ bs) v e = blocks_stay (mark_instrs slots (flag_at before b.label) used b.instrs) bs v (instrs_stay (flag_at before b.label) used b.instrs v e)

    behind_one : (b : Block) (bs : List Block) (v : ℕ) → IsAccessedAt bs v → IsAccessedAt (b ∷ bs) v
    behind_one b bs v a = record { at = suc a.at; block = a.block; there = a.there; flagged = a.flagged; accessed = a.accessed }

    pub blocks_back : (used : List Bool) (bs : List Block) (v : ℕ) → flag_at (mark_blocks slots before used bs) v ≡ true → (flag_at used v ≡ true) ⊎ IsAccessedAt bs v
    blocks_back used [] v e = inl e
    blocks_back used (b ∷ bs) v e =
        ⊎_elim (λ h. on (flag_at before b.label) refl h) (λ h. inr (behind_one b bs v h))
        (blocks_back (mark_instrs slots (flag_at before b.label) used b.instrs) bs v e)
      where
        on : (c : Bool) → flag_at before b.label ≡ c → flag_at (mark_instrs slots c used b.instrs) v ≡ true → (flag_at used v ≡ true) ⊎ IsAccessedAt (b ∷ bs) v
        on true d h = ⊎_elim (λ old. inl old) (λ here. inr (record { at = 0; block = b; there = refl; flagged = d; accessed = here })) (instrs_back used b.instrs v h)
        on false d h = inl (ap (λ (flags : List Bool). flag_at flags v) (sym (none_behind used b.instrs)) ∙ h)

    pub blocks_here : (used : List Bool) (bs : List Block) (at : ℕ) (b : Block) (v : ℕ) → slice_get bs at ≡ Some b → flag_at before b.label ≡ true → IsAccessed v b.instrs → flag_at slots v ≡ true → v < length used → flag_at (mark_blocks slots before used bs) v ≡ true
    blocks_here used [] at b v e d l h low = absurd (cc)
    blocks_here used (c ∷ bs) zero b v e d l h low =
        let same : c ≡ b = cc in
        let here : flag_at before c.label ≡ true = ap (λ (x : Block). flag_at before x.label) same ∙ d in
        blocks_stay (mark_instrs slots (flag_at before c.label) used c.instrs) bs v
        (subst (λ (y : Bool). flag_at (mark_instrs slots y used c.instrs) v ≡ true) (sym here) (instrs_here used c.instrs v (subst (λ (x : Block). IsAccessed v x.instrs) (sym same) l) h low))
    blocks_here used (c ∷ bs) (suc at) b v e d l h low =
        blocks_here (mark_instrs slots (flag_at before c.label) used c.instrs) bs at b v e d l h
        (let same = instrs_length (flag_at before c.label) used c.instrs in omega (arith, same, low))
