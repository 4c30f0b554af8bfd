-- Operands of instructions and phis of blocks are as few as in the source, but for saves that are written, which have
-- one operand.
use Rattle.std.proofs.Common.{◌≡◌, ℕ, zero, suc, ◌+◌, ◌≤◌, Bool, true, false, List, [], ◌∷◌, Option, Some, None}
use Rattle.std.proofs.Common.{length, refl, subst, arith}
use Rattle.std.proofs.Math.Nat.{le-max_left, le-max_right}
use Rattle.std.proofs.lemmas.List.{length-map}
use Rattle.std.specs.Prelude.{map, max, slice_get, unwrap_or, if◌then◌else◌}
use Rattle.pass_frames_proof.proofs.ir_laws.facts.Members.{at_each, each_joined}
use Rattle.pass_frames_proof.specs.ir_model.Calls.{first_result}
use Rattle.pass_frames_proof.specs.ir_model.declared.instr.Instr.{Instr}
use Rattle.pass_frames_proof.specs.ir_model.declared.module.Block.{Block}
use Rattle.pass_frames_proof.specs.ir_model.declared.module.Function.{Function}
use Rattle.pass_frames_proof.specs.ir_model.declared.operand.Arg.{Arg}
use Rattle.pass_frames_proof.specs.ir_model.declared.operand.Callee.{Callee}
use Rattle.pass_frames_proof.specs.ir_model.declared.operand.Intrinsic.{Intrinsic}
use Rattle.pass_frames_proof.specs.ir_parts.Contents.{instr_operands}
use Rattle.pass_frames_proof.specs.pass_early.BeginName.{if_unnamed, named_block, named_instr, with_begin_name}
use Rattle.pass_frames_proof.specs.pass_early.Early.{after_instrs, after_one, early_blocks, early_function, early_instrs, early_named}
use Rattle.pass_frames_proof.specs.pass_early.Early.{early_one, is_none, save_call, saved}
use Rattle.pass_frames_proof.specs.pass_early.Renaming.{renamed_arg, renamed_instr, renamed_phi}
use Rattle.pass_frames_proof.specs.pass_early.declared.renaming.Renaming.{Renaming}
use Rattle.pass_frames_proof.specs.pass_edges.EdgeBlocks.{edge_block, split_blocks, split_phi, with_edge_blocks}
use Rattle.pass_frames_proof.specs.pass_edges.Edges.{block_edges, edge_table, edges_at, edges_of, phi_flags}
use Rattle.pass_frames_proof.specs.pass_edges.declared.edge.Edge.{Edge}
use Rattle.pass_frames_proof.specs.Passes.{block_at, no_block}
use Rattle.pass_frames_proof.specs.run_agreement.Factor.{most_operands, most_operands_of_blocks, most_operands_of_functions, most_phis}
use Rattle.pass_frames_proof.specs.run_agreement.Factor.{most_phis_of_functions, operands_of_instr, operands_of_term}
use Rattle.pass_frames_proof.specs.run_laws.changed.Changed.{Each}

-- ---- one instruction

pub as_many : (i : Instr) → length (instr_operands i) ≡ operands_of_instr i
as_many (Instr.Binary r op flags ty left right) = refl
as_many (Instr.Icmp r pred ty left right) = refl
as_many (Instr.Select r c a b) = refl
as_many (Instr.Cast r op nneg arg to) = refl
as_many (Instr.Alloca r ty align) = refl
as_many (Instr.Load r ty address align) = refl
as_many (Instr.Store arg address align) = refl
as_many (Instr.Gep r inbounds ty base indices) =
    let a = length-map indices (λ (z : Arg). z.value) in omega (arith, a)
as_many (Instr.Call r must_tail ty (Callee.Local v) args) =
    let a = length-map args (λ (z : Arg). z.value) in omega (arith, a)
as_many (Instr.Call r must_tail ty callee args) =
    let a = length-map args (λ (z : Arg). z.value) in omega (arith, a)

renamed_many : (r : Renaming) (i : Instr) → operands_of_instr (renamed_instr r i) ≡ operands_of_instr i
renamed_many r (Instr.Gep result inbounds ty base indices) =
    let a = length-map indices (renamed_arg r) in omega (arith, a)
renamed_many r (Instr.Call result must_tail ty (Callee.Local v) args) =
    let a = length-map args (renamed_arg r) in omega (arith, a)
renamed_many r (Instr.Call result must_tail ty callee args) =
    let a = length-map args (renamed_arg r) in omega (arith, a)
renamed_many r _ = refl

named_many : (n : ℕ) (i : Instr) → operands_of_instr (named_instr n i) ≡ operands_of_instr i
named_many n (Instr.Call result must_tail ty (Callee.Intrinsic Intrinsic.CoroBegin) args) = refl
named_many n _ = refl

module _ (n : ℕ) where
  abbrev Low : Instr → Type 0
  Low i = operands_of_instr i ≤ n

  saved_low : (k : ℕ) (i : Instr) → Low i → 1 ≤ n → Low (saved k i) → (b : Bool)
      → Each Low (if b then save_call k ∷ saved k i ∷ [] else i ∷ [])
  saved_low k i h one s true = (one, (s, tt))
  saved_low k i h one s false = (h, tt)

  early_low : (k : ℕ) (i : Instr) → Low i → Each Low (early_one k i)
  early_low k (Instr.Call r must_tail ty (Callee.Intrinsic Intrinsic.CoroSuspend) (a ∷ args)) h =
      saved_low k (Instr.Call r must_tail ty (Callee.Intrinsic Intrinsic.CoroSuspend) (a ∷ args)) h
      (let g : 1 ≤ n = omega (arith, h) in g) h (is_none a.value)
  early_low k i h = (h, tt)

  lows_early : (r : Renaming) (k : ℕ) (is : List Instr) → Each Low is → Each Low (early_instrs r k is)
  lows_early r k [] h = tt
  lows_early r k (i ∷ is) h =
      let j : Instr = renamed_instr r i in
      let a = renamed_many r i in
      each_joined Low (early_one k j) (early_instrs r (after_one k j) is) (early_low k j (omega (arith, a, h.0)))
      (lows_early r (after_one k j) is h.1)

  lows_named : (k : ℕ) (is : List Instr) → Each Low is → Each Low (map (named_instr k) is)
  lows_named k [] h = tt
  lows_named k (i ∷ is) h =
      let a = named_many k i in
      let b = h.0 in
      (omega (arith, a, b), lows_named k is h.1)

  lows_of : (is : List Instr) → most_operands is ≤ n → Each Low is
  lows_of [] h = tt
  lows_of (i ∷ is) h =
      let a = le-max_left (operands_of_instr i) (most_operands is) in
      let b = le-max_right (operands_of_instr i) (most_operands is) in
      (omega (arith, a, h), lows_of is (omega (arith, b, h)))

  module _ (p : ℕ) where
    -- ---- blocks

    pub record IsShort (b : Block) : Type 0 where
      pub instrs : Each Low b.instrs
      pub phis : length b.phis ≤ p

    short_early : (r : Renaming) (k : ℕ) (bs : List Block) → Each IsShort bs → Each IsShort (early_blocks r k bs)
    short_early r k [] h = tt
    short_early r k (b ∷ bs) h =
        let a = length-map b.phis (renamed_phi r) in
        let c = h.0.phis in (
          record { instrs = lows_early r k b.instrs h.0.instrs; phis = omega (arith, a, c) },
          short_early r (after_instrs r k b.instrs) bs h.1,
        )

    short_named : (k : ℕ) (bs : List Block) → Each IsShort bs → Each IsShort (map (named_block k) bs)
    short_named k [] h = tt
    short_named k (b ∷ bs) h =
        (record { instrs = lows_named k b.instrs h.0.instrs; phis = h.0.phis }, short_named k bs h.1)

    short_edges : (es : List Edge) → Each IsShort (map edge_block es)
    short_edges [] = tt
    short_edges (e ∷ es) = (record { instrs = tt; phis = omega arith }, short_edges es)

    short_split : (flags : List Bool) (table : List (List Edge)) (k : ℕ) (bs : List Block) → Each IsShort bs
        → Each IsShort (split_blocks flags table k bs)
    short_split flags table k [] h = tt
    short_split flags table k (b ∷ bs) h =
        let a = length-map b.phis (split_phi (edges_at table b.label)) in
        let c = h.0.phis in (
          record { instrs = h.0.instrs; phis = omega (arith, a, c) },
          each_joined IsShort (map edge_block (block_edges flags k b))
              (split_blocks flags table (k + length (block_edges flags k b)) bs) (short_edges (block_edges flags k b))
              (short_split flags table (k + length (block_edges flags k b)) bs h.1),
        )

    short_of : (bs : List Block) → most_operands_of_blocks bs ≤ n → most_phis bs ≤ p → Each IsShort bs
    short_of [] h q = tt
    short_of (b ∷ bs) h q =
        let most : ℕ = max (operands_of_term b.term) (most_operands b.instrs) in
        let a = le-max_left most (most_operands_of_blocks bs) in
        let c = le-max_right most (most_operands_of_blocks bs) in
        let d = le-max_right (operands_of_term b.term) (most_operands b.instrs) in
        let e = le-max_left (length b.phis) (most_phis bs) in
        let g = le-max_right (length b.phis) (most_phis bs) in (
          record { instrs = lows_of b.instrs (omega (arith, a, d, h)); phis = omega (arith, e, q) },
          short_of bs (omega (arith, c, h)) (omega (arith, g, q)),
        )

    -- ---- functions

    begin_short : (f : Function) → Each IsShort f.blocks → Each IsShort (with_begin_name f).blocks
    begin_short f h = on (first_result Intrinsic.CoroBegin f)
      where
        on : (o : Option ℕ) → Each IsShort (if_unnamed o f).blocks
        on None = short_named (length f.names) f.blocks h
        on (Some k) = h

    early_short : (f : Function) → Each IsShort f.blocks → Each IsShort (early_function f).blocks
    early_short f h = on f.coroutine
      where
        on : (b : Bool) → Each IsShort (if b then early_named (with_begin_name f) else f).blocks
        on false = h
        on true = short_early _ (length (with_begin_name f).names) (with_begin_name f).blocks (begin_short f h)

    pub edged_short : (f : Function) → most_operands_of_blocks f.blocks ≤ n → most_phis f.blocks ≤ p
        → Each IsShort (with_edge_blocks (early_function f)).blocks
    edged_short f h q =
        let g : Function = early_function f in
        short_split (phi_flags g) (edge_table g (edges_of (phi_flags g) g)) (length g.names) g.blocks
        (early_short f (short_of f.blocks h q))

    -- ---- at a place

    none_there : {A : Type 0} (at : ℕ) (i : A) → slice_get [] at ≡ Some i → ⊥
    none_there at i e = cc

    pub operands_low : (f : Function) → Each IsShort f.blocks → (k at : ℕ) (i : Instr)
        → slice_get (block_at f k).instrs at ≡ Some i → length (instr_operands i) ≤ n
    operands_low f h k at i e = on (slice_get f.blocks k) refl e
      where
        on : (o : Option Block) → slice_get f.blocks k ≡ o → slice_get (unwrap_or o no_block).instrs at ≡ Some i
            → length (instr_operands i) ≤ n
        on None d z = absurd (none_there at i z)
        on (Some b) d z =
            let a = at_each Low b.instrs at i (at_each IsShort f.blocks k b h d).instrs z in
            let c = as_many i in
            omega (arith, a, c)

    pub phis_low : (f : Function) → Each IsShort f.blocks → (k : ℕ) → length (block_at f k).phis ≤ p
    phis_low f h k = on (slice_get f.blocks k) refl
      where
        on : (o : Option Block) → slice_get f.blocks k ≡ o → length (unwrap_or o no_block).phis ≤ p
        on None d = omega arith
        on (Some b) d = (at_each IsShort f.blocks k b h d).phis

-- ---- of all functions

pub operands_in : (fs : List Function) (k : ℕ) (f : Function) → slice_get fs k ≡ Some f
    → most_operands_of_blocks f.blocks ≤ most_operands_of_functions fs
operands_in [] k f e = absurd (cc)
operands_in (g ∷ fs) zero f e =
    let same : g ≡ f = cc in
    subst (λ (h : Function). most_operands_of_blocks h.blocks ≤ most_operands_of_functions (g ∷ fs)) same
    (le-max_left (most_operands_of_blocks g.blocks) (most_operands_of_functions fs))
operands_in (g ∷ fs) (suc k) f e =
    let a = operands_in fs k f e in
    let b = le-max_right (most_operands_of_blocks g.blocks) (most_operands_of_functions fs) in
    omega (arith, a, b)

pub phis_in : (fs : List Function) (k : ℕ) (f : Function) → slice_get fs k ≡ Some f
    → most_phis f.blocks ≤ most_phis_of_functions fs
phis_in [] k f e = absurd (cc)
phis_in (g ∷ fs) zero f e =
    let same : g ≡ f = cc in
    subst (λ (h : Function). most_phis h.blocks ≤ most_phis_of_functions (g ∷ fs)) same
    (le-max_left (most_phis g.blocks) (most_phis_of_functions fs))
phis_in (g ∷ fs) (suc k) f e =
    let a = phis_in fs k f e in
    let b = le-max_right (most_phis g.blocks) (most_phis_of_functions fs) in
    omega (arith, a, b)
