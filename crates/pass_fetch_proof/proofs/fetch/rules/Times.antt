-- The new names of fetches stand once.
use Rattle.std.proofs.Common.{◌≡◌, inl, inr, ⊎_elim, ℕ, zero, suc, ◌+◌, ◌<◌, ◌≤◌, Bool, true, false, List, [], ◌∷◌, ◌++◌, refl, sym, ap, ◌∙◌, arith}
use Rattle.std.proofs.lemmas.Bool.{cases_lt, lt-ltb, ltb-true}
use Rattle.std.specs.Prelude.{None, Option, Some, map, nat_lt, option_to_list, replicate, slice_set, unwrap_or, ◌==◌}
use Rattle.pass_edges_proof.specs.rule_uses.Uses.{block_values}
use Rattle.pass_edges_proof.proofs.ir_laws.facts.Truth.{itself, is_number}
use Rattle.pass_edges_proof.proofs.ir_laws.facts.Lists.{set_other, phi_names, row_of, times_joined}
use Rattle.pass_edges_proof.proofs.ir_laws.facts.local_rules.Woven.{other_number}
use Rattle.pass_edges_proof.proofs.ir_laws.paths.source_rules.Locals.{Apart}
use Rattle.pass_edges_proof.proofs.rule_laws.rules.source_rules.Locals.{block_names, made_by}
use Rattle.pass_edges_proof.specs.flow_solver.Paths.{IsListed}
use Rattle.pass_edges_proof.specs.ir_parts.Contents.{instr_operands, result_of}
use Rattle.ir_model.specs.declared.instr.Incoming.{Incoming}
use Rattle.ir_model.specs.declared.instr.Instr.{Instr}
use Rattle.ir_model.specs.declared.instr.Phi.{Phi}
use Rattle.ir_model.specs.declared.module.Block.{Block}
use Rattle.ir_model.specs.declared.operand.Operand.{Operand}
use Rattle.pass_edges_proof.specs.pass_fetch.Blocks.{end_at, ends_of_blocks, ends_of_incoming, ends_of_phis, fetched_block, fetched_blocks, fetched_phis, next_after_block, next_after_blocks, next_after_phi, next_after_phis, next_after_phis_by, with_end}
use Rattle.pass_edges_proof.specs.pass_fetch.Fetching.{fetch_into, fetch_of, fetches_by, fetches_of, fetches_of_all, next_after, next_after_all, next_by}
use Rattle.pass_edges_proof.specs.pass_fetch.Instrs.{fetched_instr, fetched_instrs, next_after_instr, next_after_instrs, term_operands, with_fetched}
use Rattle.pass_edges_proof.specs.pass_fetch.declared.fetch.Fetch.{Fetch}
use Rattle.pass_edges_proof.proofs.rule_laws.rules.woven_rules.Once.{times_block}
use Rattle.pass_edges_proof.specs.rule_laws.rules.woven_rules.Blocks.{times_made}
use Rattle.pass_edges_proof.specs.ir_laws.facts.woven_rules.Pairs.{one_if, times}

pub with_result : (t : List (Option Fetch)) (n : ℕ) (i : Instr) → result_of (with_fetched t n i) ≡ result_of i
with_result t n (Instr.Binary r op flags ty a b) = refl
with_result t n (Instr.Icmp r pred ty a b) = refl
with_result t n (Instr.Select r c a b) = refl
with_result t n (Instr.Cast r op nneg a to) = refl
with_result t n (Instr.Alloca r ty align) = refl
with_result t n (Instr.Load r ty x align) = refl
with_result t n (Instr.Store a x align) = refl
with_result t n (Instr.Gep r inbounds ty x args) = refl
with_result t n (Instr.Call r must_tail ty c args) = refl

pub fetched_names : (t : List (Option Fetch)) (m : ℕ) (ps : List Phi) → phi_names (fetched_phis t m ps) ≡ phi_names ps
fetched_names t m [] = refl
fetched_names t m (p ∷ ps) = λ k. p.result ∷ fetched_names t (next_after_phi t m p) ps k

module _ (t : List (Option Fetch)) (v : ℕ) where
  -- how often the value is made
  abbrev pub made : List Instr → ℕ
  made is = times v (row_of made_by is)

  -- one where the value is below a bound
  abbrev pub under : ℕ → ℕ
  under n = one_if (nat_lt v n)

  pub is_under : (n : ℕ) → v < n → under n ≡ 1
  is_under n lt = ap one_if (lt-ltb v n lt)

  pub not_under : (n : ℕ) → n ≤ v → under n ≡ 0
  not_under n le = ap one_if (on (nat_lt v n) refl)
    where
      on : (b : Bool) → nat_lt v n ≡ b → b ≡ false
      on true e = let lt : v < n = ltb-true v n e in absurd (omega (arith, lt, le))
      on false e = refl

  pub most_one : (n : ℕ) → under n ≤ 1
  most_one n = on (nat_lt v n)
    where
      on : (b : Bool) → one_if b ≤ 1
      on true = omega arith
      on false = omega arith

  pub under_step : (n : ℕ) → one_if (n == v) + under n ≡ under (n + 1)
  under_step n =
      ⊎_elim
      (λ (same : n ≡ v).
      let here : one_if (n == v) ≡ 1 = ap one_if (ap (λ (k : ℕ). n == k) (sym same) ∙ itself n) in
      let a : under n ≡ 0 = not_under n (omega (arith, same)) in
      let b : under (n + 1) ≡ 1 = is_under (n + 1) (omega (arith, same)) in
      omega (arith, here, a, b))
      (λ (other : n ≡ v → ⊥).
      let here : one_if (n == v) ≡ 0 = ap one_if (other_number n v other) in
      ⊎_elim
      (λ (lt : v < n).
      let a : under n ≡ 1 = is_under n lt in
      let b : under (n + 1) ≡ 1 = is_under (n + 1) (omega (arith, lt)) in
      omega (arith, here, a, b))
      (λ (le : n ≤ v).
      let a : under n ≡ 0 = not_under n le in
      let b : under (n + 1) ≡ 0 = not_under (n + 1) (above le other) in
      omega (arith, here, a, b))
      (cases_lt v n))
      (is_number n v)
    where
      above : n ≤ v → (n ≡ v → ⊥) → n + 1 ≤ v
      above le other = ⊎_elim (λ (lt : n < v). let h : n < v = lt in omega (arith, h)) (λ (ge : v ≤ n). absurd (other (omega (arith, ge, le)))) (cases_lt n v)

  -- ---- fetches

  pub made_both : (is js : List Instr) → made (is ++ js) ≡ made is + made js
  made_both [] js = omega arith
  made_both (i ∷ is) js =
      let rest : made (is ++ js) ≡ made is + made js = made_both is js in
      let a : times v (made_by i ++ row_of made_by (is ++ js)) ≡ times v (made_by i) + made (is ++ js) = times_joined v (made_by i) (row_of made_by (is ++ js)) in
      let b : times v (made_by i ++ row_of made_by is) ≡ times v (made_by i) + made is = times_joined v (made_by i) (row_of made_by is) in
      omega (arith, rest, a, b)

  made_fetch : (n : ℕ) (fetch : Fetch) → made (fetch_into n fetch ∷ []) ≡ one_if (n == v)
  made_fetch n (Fetch.Load ty cell) = omega arith
  made_fetch n (Fetch.Address base distance) = omega arith

  made_by_one : (n : ℕ) (o : Option Fetch) → made (fetches_by n o) + under n ≡ under (next_by n o)
  made_by_one n None = omega arith
  made_by_one n (Some fetch) =
      let a : made (fetch_into n fetch ∷ []) ≡ one_if (n == v) = made_fetch n fetch in
      let b : one_if (n == v) + under n ≡ under (n + 1) = under_step n in
      omega (arith, a, b)

  made_all : (n : ℕ) (xs : List Operand) → made (fetches_of_all t n xs) + under n ≡ under (next_after_all t n xs)
  made_all n [] = omega arith
  made_all n (x ∷ xs) =
      let a : made (fetches_of t n x) + under n ≡ under (next_after t n x) = made_by_one n (fetch_of t x) in
      let b : made (fetches_of_all t (next_after t n x) xs) + under (next_after t n x) ≡ under (next_after_all t (next_after t n x) xs) = made_all (next_after t n x) xs in
      let c : made (fetches_of t n x ++ fetches_of_all t (next_after t n x) xs) ≡ made (fetches_of t n x) + made (fetches_of_all t (next_after t n x) xs) = made_both (fetches_of t n x) (fetches_of_all t (next_after t n x) xs) in
      omega (arith, a, b, c)

  pub made_instr : (n : ℕ) (i : Instr) → times v (made_by i) ≡ 0 → made (fetched_instr t n i) + under n ≡ under (next_after_instr t n i)
  made_instr n i none =
      let fetches : List Instr = fetches_of_all t n (instr_operands i) in
      let a : made fetches + under n ≡ under (next_after_instr t n i) = made_all n (instr_operands i) in
      let b : made (fetches ++ with_fetched t n i ∷ []) ≡ made fetches + made (with_fetched t n i ∷ []) = made_both fetches (with_fetched t n i ∷ []) in
      let c : times v (made_by (with_fetched t n i) ++ []) ≡ times v (made_by (with_fetched t n i)) + 0 = times_joined v (made_by (with_fetched t n i)) [] in
      let d : times v (made_by (with_fetched t n i)) ≡ times v (made_by i) = ap (λ (o : Option ℕ). times v (option_to_list o)) (with_result t n i) in
      omega (arith, a, b, c, d, none)

  made_instrs : (n : ℕ) (is : List Instr) → made is ≡ 0 → made (fetched_instrs t n is) + under n ≡ under (next_after_instrs t n is)
  made_instrs n [] none = omega arith
  made_instrs n (i ∷ is) none =
      let d : times v (made_by i ++ row_of made_by is) ≡ times v (made_by i) + made is = times_joined v (made_by i) (row_of made_by is) in
      let here : times v (made_by i) ≡ 0 = omega (arith, d, none) in
      let rest : made is ≡ 0 = omega (arith, d, none) in
      let a : made (fetched_instr t n i) + under n ≡ under (next_after_instr t n i) = made_instr n i here in
      let b : made (fetched_instrs t (next_after_instr t n i) is) + under (next_after_instr t n i) ≡ under (next_after_instrs t (next_after_instr t n i) is) = made_instrs (next_after_instr t n i) is rest in
      let c : made (fetched_instr t n i ++ fetched_instrs t (next_after_instr t n i) is) ≡ made (fetched_instr t n i) + made (fetched_instrs t (next_after_instr t n i) is) = made_both (fetched_instr t n i) (fetched_instrs t (next_after_instr t n i) is) in
      omega (arith, a, b, c)

  -- ---- blocks; some fetches stand at the ends of labels

  abbrev ends_made : List (List Instr) → List Block → ℕ
  ends_made ends [] = 0
  ends_made ends (b ∷ bs) = made (end_at ends b.label) + ends_made ends bs

  made_block : (ends : List (List Instr)) (m n : ℕ) (b : Block) → times v (block_names b) ≡ 0 → times v (block_values (fetched_block t ends m n b)) + under n ≡ under (next_after_block t n b) + made (end_at ends b.label)
  made_block ends m n b none =
      let last : ℕ = next_after_instrs t n b.instrs in
      let c : Block = fetched_block t ends m n b in
      let is : List Instr = fetched_instrs t n b.instrs in
      let es : List Instr = end_at ends b.label in
      let ts : List Instr = fetches_of_all t last (term_operands b.term) in
      let names : times v (phi_names b.phis ++ row_of made_by b.instrs) ≡ times v (phi_names b.phis) + made b.instrs = times_joined v (phi_names b.phis) (row_of made_by b.instrs) in
      let whole : one_if (b.label == v) + times v (phi_names b.phis ++ row_of made_by b.instrs) ≡ 0 = none in
      let old_phis : times v (phi_names b.phis) ≡ 0 = omega (arith, names, whole) in
      let old_instrs : made b.instrs ≡ 0 = omega (arith, names, whole) in
      let a : times v (block_values c) ≡ times v (phi_names c.phis) + made c.instrs = times_block v c in
      let phis : times v (phi_names c.phis) ≡ times v (phi_names b.phis) = ap (times v) (fetched_names t m b.phis) in
      let d : made ((is ++ es) ++ ts) ≡ made (is ++ es) + made ts = made_both (is ++ es) ts in
      let e : made (is ++ es) ≡ made is + made es = made_both is es in
      let i : made is + under n ≡ under last = made_instrs n b.instrs old_instrs in
      let j : made ts + under last ≡ under (next_after_all t last (term_operands b.term)) = made_all last (term_operands b.term) in
      omega (arith, old_phis, a, phis, d, e, i, j)

  made_blocks : (ends : List (List Instr)) (m n : ℕ) (bs : List Block) → times v (row_of block_names bs) ≡ 0 → times_made v (fetched_blocks t ends m n bs) + under n ≡ under (next_after_blocks t n bs) + ends_made ends bs
  made_blocks ends m n [] none = omega arith
  made_blocks ends m n (b ∷ bs) none =
      let d : times v (block_names b ++ row_of block_names bs) ≡ times v (block_names b) + times v (row_of block_names bs) = times_joined v (block_names b) (row_of block_names bs) in
      let here : times v (block_names b) ≡ 0 = omega (arith, d, none) in
      let rest : times v (row_of block_names bs) ≡ 0 = omega (arith, d, none) in
      let a : times v (block_values (fetched_block t ends m n b)) + under n ≡ under (next_after_block t n b) + made (end_at ends b.label) = made_block ends m n b here in
      let c : times_made v (fetched_blocks t ends (next_after_phis t m b.phis) (next_after_block t n b) bs) + under (next_after_block t n b) ≡ under (next_after_blocks t (next_after_block t n b) bs) + ends_made ends bs = made_blocks ends (next_after_phis t m b.phis) (next_after_block t n b) bs rest in
      omega (arith, a, c)

  -- ---- all ends together

  abbrev total : List (List Instr) → ℕ
  total [] = 0
  total (es ∷ ends) = made es + total ends

  total_set : (ends : List (List Instr)) (l : ℕ) (es : List Instr) → total (slice_set ends l es) + made (end_at ends l) ≤ total ends + made es
  total_set [] l es = omega arith
  total_set (fs ∷ ends) zero es = omega arith
  total_set (fs ∷ ends) (suc l) es = let more : total (slice_set ends l es) + made (end_at ends l) ≤ total ends + made es = total_set ends l es in omega (arith, more)

  total_cleared : (ends : List (List Instr)) (l : ℕ) → made (end_at ends l) + total (slice_set ends l []) ≡ total ends
  total_cleared [] l = omega arith
  total_cleared (fs ∷ ends) zero = omega arith
  total_cleared (fs ∷ ends) (suc l) = let more : made (end_at ends l) + total (slice_set ends l []) ≡ total ends = total_cleared ends l in omega (arith, more)

  ends_cleared : (ends : List (List Instr)) (l : ℕ) (bs : List Block) → (IsListed l (map (λ (b : Block). b.label) bs) → ⊥) → ends_made (slice_set ends l []) bs ≡ ends_made ends bs
  ends_cleared ends l [] h = refl
  ends_cleared ends l (b ∷ bs) h =
      let here : made (end_at (slice_set ends l []) b.label) ≡ made (end_at ends b.label) = ap (λ (o : Option (List Instr)). made (unwrap_or o [])) (set_other ends l b.label [] (λ e. h (inl e))) in
      let rest : ends_made (slice_set ends l []) bs ≡ ends_made ends bs = ends_cleared ends l bs (λ k. h (inr k)) in
      omega (arith, here, rest)

  ends_within : (ends : List (List Instr)) (bs : List Block) → Apart (map (λ (b : Block). b.label) bs) → ends_made ends bs ≤ total ends
  ends_within ends [] h = omega arith
  ends_within ends (b ∷ bs) h =
      let now : List (List Instr) = slice_set ends b.label [] in
      let a : ends_made now bs ≡ ends_made ends bs = ends_cleared ends b.label bs h.0 in
      let c : ends_made now bs ≤ total now = ends_within now bs h.1 in
      let d : made (end_at ends b.label) + total now ≡ total ends = total_cleared ends b.label in
      omega (arith, a, c, d)

  total_one : (ends : List (List Instr)) (l n : ℕ) (o : Option Fetch) → total (with_end ends l n o) + under n ≤ total ends + under (next_by n o)
  total_one ends l n None = omega arith
  total_one ends l n (Some fetch) =
      let a : total (slice_set ends l (end_at ends l ++ fetch_into n fetch ∷ [])) + made (end_at ends l) ≤ total ends + made (end_at ends l ++ fetch_into n fetch ∷ []) = total_set ends l (end_at ends l ++ fetch_into n fetch ∷ []) in
      let b : made (end_at ends l ++ fetch_into n fetch ∷ []) ≡ made (end_at ends l) + made (fetch_into n fetch ∷ []) = made_both (end_at ends l) (fetch_into n fetch ∷ []) in
      let c : made (fetch_into n fetch ∷ []) + under n ≡ under (n + 1) = made_by_one n (Some fetch) in
      omega (arith, a, b, c)

  total_incoming : (n : ℕ) (ends : List (List Instr)) (is : List Incoming) → total (ends_of_incoming t n ends is) + under n ≤ total ends + under (next_after_all t n (map (λ (i : Incoming). i.value) is))
  total_incoming n ends [] = omega arith
  total_incoming n ends (i ∷ is) =
      let now : List (List Instr) = with_end ends i.from n (fetch_of t i.value) in
      let a : total now + under n ≤ total ends + under (next_after t n i.value) = total_one ends i.from n (fetch_of t i.value) in
      let b : total (ends_of_incoming t (next_after t n i.value) now is) + under (next_after t n i.value) ≤ total now + under (next_after_all t (next_after t n i.value) (map (λ (i : Incoming). i.value) is)) = total_incoming (next_after t n i.value) now is in
      omega (arith, a, b)

  total_phis : (n : ℕ) (ends : List (List Instr)) (ps : List Phi) → total (ends_of_phis t n ends ps) + under n ≤ total ends + under (next_after_phis t n ps)
  total_phis n ends [] = omega arith
  total_phis n ends (p ∷ ps) =
      let now : List (List Instr) = ends_of_incoming t n ends p.incoming in
      let a : total now + under n ≤ total ends + under (next_after_phi t n p) = total_incoming n ends p.incoming in
      let b : total (ends_of_phis t (next_after_phi t n p) now ps) + under (next_after_phi t n p) ≤ total now + under (next_after_phis t (next_after_phi t n p) ps) = total_phis (next_after_phi t n p) now ps in
      omega (arith, a, b)

  total_blocks : (n : ℕ) (ends : List (List Instr)) (bs : List Block) → total (ends_of_blocks t n ends bs) + under n ≤ total ends + under (next_after_phis_by t n bs)
  total_blocks n ends [] = omega arith
  total_blocks n ends (b ∷ bs) =
      let now : List (List Instr) = ends_of_phis t n ends b.phis in
      let a : total now + under n ≤ total ends + under (next_after_phis t n b.phis) = total_phis n ends b.phis in
      let c : total (ends_of_blocks t (next_after_phis t n b.phis) now bs) + under (next_after_phis t n b.phis) ≤ total now + under (next_after_phis_by t (next_after_phis t n b.phis) bs) = total_blocks (next_after_phis t n b.phis) now bs in
      omega (arith, a, c)

  total_none : (k : ℕ) → total (replicate k []) ≡ 0
  total_none zero = refl
  total_none (suc k) = let more : total (replicate k []) ≡ 0 = total_none k in omega (arith, more)

  -- a new name is made at most once
  pub fetches_once : (first : ℕ) (bs : List Block) → first ≤ v → times v (row_of block_names bs) ≡ 0 → Apart (map (λ (b : Block). b.label) bs) → times_made v (fetched_blocks t (ends_of_blocks t first (replicate first []) bs) first (next_after_phis_by t first bs) bs) ≤ 1
  fetches_once first bs low none apart =
      let ends : List (List Instr) = ends_of_blocks t first (replicate first []) bs in
      let second : ℕ = next_after_phis_by t first bs in
      let a : times_made v (fetched_blocks t ends first second bs) + under second ≡ under (next_after_blocks t second bs) + ends_made ends bs = made_blocks ends first second bs none in
      let b : ends_made ends bs ≤ total ends = ends_within ends bs apart in
      let c : total ends + under first ≤ total (replicate first []) + under second = total_blocks first (replicate first []) bs in
      let d : total (replicate first []) ≡ 0 = total_none first in
      let e : under first ≡ 0 = not_under first low in
      let most : under (next_after_blocks t second bs) ≤ 1 = most_one (next_after_blocks t second bs) in
      omega (arith, a, b, c, d, e, most)
