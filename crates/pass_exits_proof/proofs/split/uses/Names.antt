-- What the pieces of blocks define: what the blocks define, and new names one after the other.
use Rattle.std.proofs.Common.{◌≡◌, ◌⊎◌, inl, inr, ℕ, zero, suc, ◌+◌, ◌<◌, ◌≤◌, Bool, true, false, List, [], ◌∷◌, ◌++◌, refl, sym, ap, ◌∙◌, subst, arith}
use Rattle.std.specs.Prelude.{None, Option, Some, map, option_to_list, ◌==◌, if◌then◌else◌}
use Rattle.pass_split.specs.Pieces.{begins_again, pass_block, pieced_phi, redirected_term, stop_label}
use Rattle.pass_split.specs.declared.origin.Origin.{Origin}
use Rattle.pass_fetch_proof.proofs.ir_laws.facts.Truth.{itself, is_number}
use Rattle.pass_fetch_proof.proofs.ir_laws.facts.local_rules.Woven.{other_number}
use Rattle.pass_fetch_proof.proofs.rule_laws.rules.source_rules.Locals.{made_by}
use Rattle.pass_fetch_proof.proofs.ir_laws.facts.Lists.{phi_names, row_of, times_joined}
use Rattle.pass_fetch_proof.specs.ir_parts.Contents.{result_of}
use Rattle.pass_fetch_proof.specs.pass_intrinsics.Lowered.{lowered, names_taken, number_of_save, save_or_none}
use Rattle.pass_fetch_proof.specs.pass_intrinsics.Shapes.{pass_label}
use Rattle.pass_fetch_proof.specs.pass_intrinsics.declared.shape.Part.{Part}
use Rattle.pass_fetch_proof.specs.pass_intrinsics.declared.shape.Shape.{Shape}
use Rattle.ir_model.specs.Ty.{Ty}
use Rattle.ir_model.specs.declared.instr.Instr.{Instr}
use Rattle.ir_model.specs.declared.instr.Phi.{Phi}
use Rattle.ir_model.specs.declared.instr.Terminator.{Terminator}
use Rattle.ir_model.specs.declared.module.Block.{Block}
use Rattle.ir_model.specs.declared.operand.Arg.{Arg}
use Rattle.ir_model.specs.declared.operand.Callee.{Callee}
use Rattle.ir_model.specs.declared.operand.Intrinsic.{Intrinsic}
use Rattle.pass_fetch_proof.specs.ir_paths.Windows.{is_call_of}
use Rattle.pass_exits_proof.specs.split.rules.Pieced.{ArePieces, ArePiecesOf, BeginsAgain, Ends, Marks, NoBlock, OneBlock, Returns, Stays, Suspends, Transfers}
use Rattle.pass_fetch_proof.specs.run_laws.changed.Changed.{Each}
use Rattle.pass_fetch_proof.specs.ir_laws.facts.woven_rules.Pairs.{one_if, times}

-- so many names from one on
abbrev pub fresh : ℕ → ℕ → List ℕ
fresh n zero = []
fresh n (suc k) = n ∷ fresh (n + 1) k

-- the values that a block defines
abbrev pub values_of : Block → List ℕ
values_of c = phi_names c.phis ++ row_of made_by c.instrs

-- what an instruction defines, unless the block ends before it
abbrev pub kept_made : Part → Instr → List ℕ
kept_made part i = if begins_again part i then [] else made_by i

abbrev pub kept_values : Part → Block → List ℕ
kept_values part b = phi_names b.phis ++ row_of (kept_made part) b.instrs

-- begin's result is the frame
abbrev pub NamesFrame : Shape → Part → Instr → Type 0
NamesFrame s part i = begins_again part i ≡ false → is_call_of Intrinsic.CoroBegin i ≡ true → result_of i ≡ Some s.begin

module _ (v : ℕ) where
  nothing_behind : (xs : List ℕ) → times v (xs ++ []) ≡ times v xs
  nothing_behind xs = let e = times_joined v xs [] in omega (arith, e)

  -- ---- one instruction

  module _ (s : Shape) (part : Part) (n : ℕ) where
    abbrev Within : Instr → Type 0
    Within i = times v (row_of made_by (lowered s part n i)) ≤ times v (made_by i) + times v (fresh n (names_taken i))

    stays : (xs : List ℕ) → times v (xs ++ []) ≤ times v xs + 0
    stays xs = let e = nothing_behind xs in omega (arith, e)

    call_within : (r : Option ℕ) (must_tail : Bool) (ty : Option Ty) (args : List Arg) (x : Intrinsic) → (is_call_of Intrinsic.CoroBegin (Instr.Call r must_tail ty (Callee.Intrinsic x) args) ≡ true → r ≡ Some s.begin) → Within (Instr.Call r must_tail ty (Callee.Intrinsic x) args)
    call_within None must_tail ty args Intrinsic.CoroSizeI32 h = omega arith
    call_within (Some r) must_tail ty args Intrinsic.CoroSizeI32 h = omega arith
    call_within None must_tail ty args Intrinsic.CoroSizeI64 h = omega arith
    call_within (Some r) must_tail ty args Intrinsic.CoroSizeI64 h = omega arith
    call_within None must_tail ty args Intrinsic.CoroAlignI32 h = omega arith
    call_within (Some r) must_tail ty args Intrinsic.CoroAlignI32 h = omega arith
    call_within None must_tail ty args Intrinsic.CoroAlignI64 h = omega arith
    call_within (Some r) must_tail ty args Intrinsic.CoroAlignI64 h = omega arith
    call_within None must_tail ty args Intrinsic.CoroAlloc h = omega arith
    call_within (Some r) must_tail ty args Intrinsic.CoroAlloc h = omega arith
    call_within r must_tail ty args Intrinsic.CoroBegin h =
        subst (λ (o : Option ℕ). times v (s.begin ∷ n ∷ []) ≤ times v (option_to_list o) + times v (n ∷ [])) (sym (h refl)) (omega arith)
    call_within None must_tail ty args Intrinsic.CoroFree h = omega arith
    call_within (Some r) must_tail ty args Intrinsic.CoroFree h = omega arith
    call_within None must_tail ty args Intrinsic.CoroFrame h = omega arith
    call_within (Some r) must_tail ty args Intrinsic.CoroFrame h = omega arith
    call_within r must_tail ty args Intrinsic.CoroSave h = on (number_of_save s r)
      where
        on : (o : Option ℕ) → times v (row_of made_by (save_or_none s n o)) ≤ times v (option_to_list r) + times v (n ∷ [])
        on None = omega arith
        on (Some j) = omega arith
    call_within r must_tail ty args Intrinsic.CoroSuspend h = omega arith
    call_within None must_tail ty args Intrinsic.CoroEnd h = omega arith
    call_within (Some r) must_tail ty args Intrinsic.CoroEnd h = omega arith
    call_within r must_tail ty args Intrinsic.CoroResume h = omega arith
    call_within r must_tail ty args Intrinsic.CoroDestroy h = omega arith
    call_within None must_tail ty args Intrinsic.CoroDone h = omega arith
    call_within (Some r) must_tail ty args Intrinsic.CoroDone h = omega arith
    call_within None must_tail ty args Intrinsic.CoroPromise h = omega arith
    call_within (Some r) must_tail ty args Intrinsic.CoroPromise h = omega arith
    call_within r must_tail ty args Intrinsic.CoroId h = stays (option_to_list r)
    call_within r must_tail ty args Intrinsic.LifetimeStart h = stays (option_to_list r)
    call_within r must_tail ty args Intrinsic.LifetimeEnd h = stays (option_to_list r)
    call_within r must_tail ty args Intrinsic.MemcpyI64 h = stays (option_to_list r)
    call_within r must_tail ty args Intrinsic.MemcpyI32 h = stays (option_to_list r)

    pub lowered_within : (i : Instr) → (is_call_of Intrinsic.CoroBegin i ≡ true → result_of i ≡ Some s.begin) → Within i
    lowered_within (Instr.Call r must_tail ty (Callee.Intrinsic x) args) h = call_within r must_tail ty args x h
    lowered_within (Instr.Call r must_tail ty (Callee.Named c) args) h = stays (option_to_list r)
    lowered_within (Instr.Call r must_tail ty (Callee.Allocator a) args) h = stays (option_to_list r)
    lowered_within (Instr.Call r must_tail ty (Callee.Local c) args) h = stays (option_to_list r)
    lowered_within (Instr.Binary r op flags ty left right) h = omega arith
    lowered_within (Instr.Icmp r pred ty left right) h = omega arith
    lowered_within (Instr.Select r c a b) h = omega arith
    lowered_within (Instr.Cast r op nneg arg to) h = omega arith
    lowered_within (Instr.Alloca r ty align) h = omega arith
    lowered_within (Instr.Load r ty x align) h = omega arith
    lowered_within (Instr.Store arg x align) h = omega arith
    lowered_within (Instr.Gep r inbounds ty base indices) h = omega arith

  fresh_joined : (n a b : ℕ) → times v (fresh n (a + b)) ≡ times v (fresh n a) + times v (fresh (n + a) b)
  fresh_joined n zero b =
      let none : 0 + b ≡ b = omega arith in
      let same : n + 0 ≡ n = omega arith in
      let x : times v (fresh n (0 + b)) ≡ times v (fresh n b) = ap (λ (m : ℕ). times v (fresh n m)) none in
      let y : times v (fresh (n + 0) b) ≡ times v (fresh n b) = ap (λ (m : ℕ). times v (fresh m b)) same in
      omega (arith, x, y)
  fresh_joined n (suc a) b =
      let more : suc a + b ≡ suc (a + b) = omega arith in
      let same : n + 1 + a ≡ n + suc a = omega arith in
      let x : times v (fresh n (suc a + b)) ≡ times v (fresh n (suc (a + b))) = ap (λ (m : ℕ). times v (fresh n m)) more in
      let e = fresh_joined (n + 1) a b in
      let d : times v (fresh (n + 1 + a) b) ≡ times v (fresh (n + suc a) b) = ap (λ (m : ℕ). times v (fresh m b)) same in
      omega (arith, x, e, d)

  -- ---- the pieces of a block

  abbrev pub values : List Block → ℕ
  values cs = times v (row_of values_of cs)

  pub one_more : (c : Block) (cs : List Block) → values (c ∷ cs) ≡ times v (phi_names c.phis) + (times v (row_of made_by c.instrs) + values cs)
  one_more c cs =
      let a = times_joined v (values_of c) (row_of values_of cs) in
      let b = times_joined v (phi_names c.phis) (row_of made_by c.instrs) in
      omega (arith, a, b)

  pub rows_joined : (xs ys : List Instr) → times v (row_of made_by (xs ++ ys)) ≡ times v (row_of made_by xs) + times v (row_of made_by ys)
  rows_joined [] ys = omega arith
  rows_joined (x ∷ xs) ys =
      let e = rows_joined xs ys in
      let a = times_joined v (made_by x) (row_of made_by (xs ++ ys)) in
      let b = times_joined v (made_by x) (row_of made_by xs) in
      omega (arith, e, a, b)

  module _ (s : Shape) (part : Part) where
    abbrev Bound : ℕ → ℕ → List Phi → List Instr → ℕ → Type 0
    Bound n last phis is total = (k : ℕ) × ((last ≡ n + k) × (total ≤ times v (phi_names phis) + (times v (row_of (kept_made part) is) + times v (fresh n k))))

    kept_more : (i : Instr) (is : List Instr) → begins_again part i ≡ false → times v (row_of (kept_made part) (i ∷ is)) ≡ times v (made_by i) + times v (row_of (kept_made part) is)
    kept_more i is e =
        let a = times_joined v (kept_made part i) (row_of (kept_made part) is) in
        let b : times v (kept_made part i) ≡ times v (made_by i) = ap (λ (t : Bool). times v (if t then [] else made_by i)) e in
        omega (arith, a, b)

    abbrev first_with : ℕ → List Phi → List Instr → Terminator → Block
    first_with label phis is t = record { label = label; phis = phis; instrs = is; term = t }

    -- a block that has ended before an instruction
    ended : (label n : ℕ) (phis : List Phi) (is : List Instr) (u : Terminator) → Bound n n phis is (values (first_with label phis [] u ∷ []))
    ended label n phis is u = let e = one_more (first_with label phis [] u) [] in (0, (omega arith, omega (arith, e)))

    pub pieces_within : (t : Terminator) (label n last : ℕ) (phis : List Phi) (is : List Instr) (cs : List Block) → ArePieces s part t label phis n is cs last → Each (NamesFrame s part) is → Bound n last phis is (values cs)
    pieces_within t _ _ _ _ _ _ (Ends label n phis) h = ended label n phis [] (redirected_term s t)
    pieces_within t _ _ _ _ _ _ (Stays label n last phis i is c cs again d more) h =
        let js : List Instr = lowered s part n i in
        let r = pieces_within t label (n + names_taken i) last phis is (c ∷ cs) more h.1 in
        let front = one_more (record { label = c.label; phis = c.phis; instrs = js ++ c.instrs; term = c.term }) cs in
        let old = one_more c cs in
        let rows = rows_joined js c.instrs in
        let own = lowered_within s part n i (h.0 again) in
        let kept = kept_more i is again in
        let new = fresh_joined n (names_taken i) r.0 in
        let long : last ≡ n + names_taken i + r.0 = r.1.0 in
        let most = r.1.1 in
        (names_taken i + r.0, (omega (arith, long), omega (arith, front, old, rows, own, kept, new, most)))
    pieces_within t _ _ _ _ _ _ (Marks label n last mark phis i is cs again d more) h =
        let js : List Instr = lowered s part n i in
        let r = pieces_within t mark (n + names_taken i) last [] is cs more h.1 in
        let front = one_more (first_with label phis js (Terminator.Jump mark)) cs in
        let own = lowered_within s part n i (h.0 again) in
        let kept = kept_more i is again in
        let new = fresh_joined n (names_taken i) r.0 in
        let long : last ≡ n + names_taken i + r.0 = r.1.0 in
        let most = r.1.1 in
        (names_taken i + r.0, (omega (arith, long), omega (arith, front, own, kept, new, most)))
    pieces_within t _ _ _ _ _ _ (Suspends label n phis i is again d) h = ended label n phis (i ∷ is) (Terminator.Jump (stop_label t))
    pieces_within t _ _ _ _ _ _ (Returns label n phis i is again d) h = ended label n phis (i ∷ is) (Terminator.Ret None)
    pieces_within t _ _ _ _ _ _ (Transfers label n j phis i is again d) h =
        let js : List Instr = lowered s part n i in
        let pass : Block = pass_block (pass_label s j) js in
        let front = one_more (first_with label phis [] (Terminator.Jump (pass_label s j))) (pass ∷ []) in
        let last_one = one_more pass [] in
        let own = lowered_within s part n i (h.0 again) in
        let kept = kept_more i is again in
        (names_taken i, (refl, omega (arith, front, last_one, own, kept)))
    pieces_within t _ _ _ _ _ _ (BeginsAgain label n phis i is again) h = ended label n phis (i ∷ is) Terminator.Unreachable

    pieced_names : (origins : List Origin) (label : ℕ) (ps : List Phi) → phi_names (map (pieced_phi s part origins label) ps) ≡ phi_names ps
    pieced_names origins label [] = refl
    pieced_names origins label (p ∷ ps) = ap (λ (ns : List ℕ). p.result ∷ ns) (pieced_names origins label ps)

    pub values_joined : (cs ds : List Block) → values (cs ++ ds) ≡ values cs + values ds
    values_joined [] ds = omega arith
    values_joined (c ∷ cs) ds = let e = values_joined cs ds in let a = one_more c (cs ++ ds) in let b = one_more c cs in omega (arith, e, a, b)

    -- the pieces of blocks define what the blocks keep, and new names one after the other
    pub blocks_within : (origins : List Origin) (n last : ℕ) (bs ds : List Block) → ArePiecesOf s part origins n bs ds last → Each (λ (b : Block). Each (NamesFrame s part) b.instrs) bs → (k : ℕ) × ((last ≡ n + k) × (values ds ≤ times v (row_of (kept_values part) bs) + times v (fresh n k)))
    blocks_within origins _ _ _ _ (NoBlock n) h = (0, (omega arith, omega arith))
    blocks_within origins _ _ _ _ (OneBlock n next last b bs cs ds k rest) h =
        let x = pieces_within b.term b.label n next (map (pieced_phi s part origins b.label) b.phis) b.instrs cs k h.0 in
        let y = blocks_within origins next last bs ds rest h.1 in
        let both = values_joined cs ds in
        let phis : times v (phi_names (map (pieced_phi s part origins b.label) b.phis)) ≡ times v (phi_names b.phis) = ap (times v) (pieced_names origins b.label b.phis) in
        let own = times_joined v (phi_names b.phis) (row_of (kept_made part) b.instrs) in
        let all = times_joined v (kept_values part b) (row_of (kept_values part) bs) in
        let new = fresh_joined n x.0 y.0 in
        let first : next ≡ n + x.0 = x.1.0 in
        let second : last ≡ next + y.0 = y.1.0 in
        let same : times v (fresh next y.0) ≡ times v (fresh (n + x.0) y.0) = ap (λ (a : ℕ). times v (fresh a y.0)) first in
        let most = x.1.1 in
        let more = y.1.1 in
        (x.0 + y.0, (omega (arith, first, second), omega (arith, both, phis, own, all, new, same, most, more)))

  -- ---- new names stand once

  pub fresh_low : (n k : ℕ) → v < n → times v (fresh n k) ≡ 0
  fresh_low n zero low = refl
  fresh_low n (suc k) low =
      let here : one_if (n == v) ≡ 0 = ap one_if (other_number n v (λ e. let same : n ≡ v = e in absurd (omega (arith, same, low)))) in
      let rest = fresh_low (n + 1) k (omega (arith, low)) in
      omega (arith, here, rest)

  pub fresh_once : (n k : ℕ) → times v (fresh n k) ≤ 1
  fresh_once n zero = omega arith
  fresh_once n (suc k) = on (is_number n v) (fresh_once (n + 1) k)
    where
      on : (n ≡ v) ⊎ (n ≡ v → ⊥) → times v (fresh (n + 1) k) ≤ 1 → times v (fresh n (suc k)) ≤ 1
      on (inl e) rest =
          let none : times v (fresh (n + 1) k) ≡ 0 = fresh_low (n + 1) k (let same : n ≡ v = e in omega (arith, same)) in
          let here : one_if (n == v) ≡ 1 = ap one_if (ap (λ (x : ℕ). n == x) (sym e) ∙ itself n) in
          omega (arith, none, here)
      on (inr d) rest =
          let here : one_if (n == v) ≡ 0 = ap one_if (other_number n v d) in
          omega (arith, here, rest)
