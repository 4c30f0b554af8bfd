-- A function whose operands are fetched is one into which the fetches are woven.
use Rattle.std.proofs.Common.{◌≡◌, ⊎_elim, ℕ, zero, suc, ◌+◌, ◌-◌, ◌<◌, ◌≤◌, true, false, List, [], ◌∷◌, ◌++◌, length, refl, sym, ap, ◌∙◌, subst, arith, append_assoc}
use Rattle.std.proofs.lemmas.List.{length-append}
use Rattle.std.specs.Prelude.{Option, Some, is_some, map, option_map, option_to_list, slice_get, unwrap_or, ◌==◌, if◌then◌else◌}
use Rattle.pass_edges_proof.specs.ir_base.declared.outcome.Place.{Place}
use Rattle.pass_edges_proof.specs.rule_uses.Uses.{block_uses, block_values, blocks_uses, instr_uses, made_by_instrs, made_by_phis, phi_values, uses_at, values_at, values_in}
use Rattle.pass_edges_proof.proofs.rule_laws.rules.local_rules.Carried.{Passing}
use Rattle.pass_edges_proof.proofs.ir_laws.facts.Members.{each_left, each_right}
use Rattle.pass_edges_proof.proofs.ir_laws.paths.source_rules.Locals.{listed_either, listed_left, listed_right}
use Rattle.pass_edges_proof.proofs.rule_laws.rules.source_rules.Locals.{made_by, own_label}
use Rattle.pass_fetch_proof.proofs.fetch.rules.Ends.{AreGood, HasEnds, HaveEnds, IsGrown, blocks_rise, grown_blocks, grown_both, grown_phis, has_phis, phis_rise}
use Rattle.pass_fetch_proof.proofs.fetch.rules.Puts.{HasMade, KnowsBase, all_in_place, fetch_makes, fetch_put, fetch_range, fetch_rises, fetched_woven, one_in_place, puts_woven, term_fetched}
use Rattle.pass_fetch_proof.proofs.fetch.rules.Times.{with_result}
use Rattle.pass_fetch_proof.specs.fetch.rules.Fetches.{FetchesFit, FitsTable, HasBase, LeavesMarks, base_of, fetch_weaving, second_name}
use Rattle.pass_edges_proof.specs.flow_solver.Paths.{IsListed}
use Rattle.pass_edges_proof.specs.ir_parts.Contents.{ending_operands, instr_operands, result_of}
use Rattle.pass_edges_proof.specs.ir_parts.Parts.{Part, block_parts, blocks_parts, instr_place, phi_parts}
use Rattle.pass_edges_proof.specs.rule_laws.rules.function_rules.Kept.{KeepsFunctionRules}
use Rattle.ir_model.specs.Names.{first_where, numbered, position_of}
use Rattle.ir_model.specs.declared.instr.Incoming.{Incoming}
use Rattle.ir_model.specs.declared.instr.Instr.{Instr}
use Rattle.ir_model.specs.declared.instr.Phi.{Phi}
use Rattle.ir_model.specs.declared.instr.Terminator.{Terminator}
use Rattle.ir_model.specs.declared.module.Block.{Block}
use Rattle.ir_model.specs.declared.module.Function.{Function}
use Rattle.ir_model.specs.declared.module.Module.{Module}
use Rattle.ir_model.specs.declared.operand.Operand.{Operand}
use Rattle.pass_edges_proof.specs.ir_locals.Tables.{or_first}
use Rattle.pass_edges_proof.specs.rule_names.Known.{is_label}
use Rattle.pass_edges_proof.specs.run_laws.changed.Changed.{Each}
use Rattle.pass_edges_proof.specs.pass_fetch.Blocks.{end_at, ends_of_blocks, ends_of_phis, fetched_block, fetched_blocks, fetched_incoming, fetched_phi, fetched_phis, next_after_block, next_after_blocks, next_after_phi, next_after_phis, next_after_phis_by, numbered_names, with_fetches}
use Rattle.pass_edges_proof.specs.pass_fetch.Fetching.{fetch_into, fetch_of, fetched_operand, fetches_of_all, next_after, next_after_all}
use Rattle.pass_edges_proof.specs.pass_fetch.Instrs.{fetched_instr, fetched_instrs, next_after_instr, next_after_instrs, term_operands, with_fetched}
use Rattle.pass_edges_proof.specs.pass_fetch.declared.fetch.Fetch.{Fetch}
use Rattle.pass_edges_proof.specs.rule_values.declared.kinds.Kind.{Kind}
use Rattle.pass_fetch_proof.proofs.fetch.rules.Good.{LabelsKnown, all_good, all_pass, based_block, final, final_ends, found, no_names, once, phi_labels, phis_pass, start, unknown}
use Rattle.pass_edges_proof.proofs.rule_laws.rules.woven_rules.Pieces.{listed_woven, made_contains}
use Rattle.pass_edges_proof.proofs.rule_laws.rules.woven_rules.Told.{told}
use Rattle.pass_edges_proof.proofs.rule_laws.rules.woven_rules.ValueKinds.{made_grows}
use Rattle.pass_edges_proof.specs.rule_laws.rules.woven_rules.Blocks.{AreWoven, AreWovenBlocks, Done, IsNew, IsPutIn, IsWoven, IsWovenBlock, NoBlock, OneBlock}
use Rattle.pass_edges_proof.specs.ir_laws.facts.woven_rules.Pairs.{Empty, Pair, Pairwise}
use Rattle.pass_edges_proof.specs.rule_laws.rules.woven_rules.Parts.{IncomingStays, PhiStays}
use Rattle.pass_edges_proof.specs.rule_laws.rules.woven_rules.Weaving.{IsInPlace, IsKnown, IsThere, Old, Weaving, kinds_with}

append_none : {A : Type 0} (xs : List A) → xs ++ [] ≡ xs
append_none [] = refl
append_none (x ∷ xs) = λ k. x ∷ append_none xs k

-- ---- names rise

pub instrs_rise : (t : List (Option Fetch)) (n : ℕ) (is : List Instr) → n ≤ next_after_instrs t n is
instrs_rise t n [] = omega arith
instrs_rise t n (i ∷ is) =
    let here : n ≤ next_after_instr t n i = fetch_rises t n (instr_operands i) in
    let more : next_after_instr t n i ≤ next_after_instrs t (next_after_instr t n i) is = instrs_rise t (next_after_instr t n i) is in
    omega (arith, here, more)

pub block_rises : (t : List (Option Fetch)) (n : ℕ) (b : Block) → n ≤ next_after_block t n b
block_rises t n b =
    let here : n ≤ next_after_instrs t n b.instrs = instrs_rise t n b.instrs in
    let more : next_after_instrs t n b.instrs ≤ next_after_block t n b = fetch_rises t (next_after_instrs t n b.instrs) (term_operands b.term) in
    omega (arith, here, more)

all_rise : (t : List (Option Fetch)) (n : ℕ) (bs : List Block) → n ≤ next_after_blocks t n bs
all_rise t n [] = omega arith
all_rise t n (b ∷ bs) =
    let here : n ≤ next_after_block t n b = block_rises t n b in
    let more : next_after_block t n b ≤ next_after_blocks t (next_after_block t n b) bs = all_rise t (next_after_block t n b) bs in
    omega (arith, here, more)

-- so many names of a word
pub numbered_length : (word : List ℕ) (n : ℕ) → length (numbered_names word n) ≡ n
numbered_length word zero = refl
numbered_length word (suc n) =
    let e : length (numbered_names word n ++ numbered word n ∷ []) ≡ length (numbered_names word n) + 1 = length-append (numbered_names word n) (numbered word n ∷ []) in
    let d : length (numbered_names word n) ≡ n = numbered_length word n in
    omega (arith, e, d)

module _ (m : Module) (k : ℕ) (f : Function) (t : List (Option Fetch)) (word : List ℕ) (keeps : KeepsFunctionRules m k f) (fit : FetchesFit k f t) where
  abbrev First : ℕ
  First = length f.names

  abbrev Second : ℕ
  Second = second_name f t

  abbrev After : ℕ
  After = next_after_blocks t Second f.blocks

  abbrev Final : List (List Instr)
  Final = final m k f t word keeps fit

  abbrev G : Function
  G = with_fetches f t word

  abbrev W : Weaving
  W = fetch_weaving f t word

  first_second : First ≤ Second
  first_second = blocks_rise t First f.blocks

  second_after : Second ≤ After
  second_after = all_rise t Second f.blocks

  -- ---- where blocks are

  record IsFetchedAt (p n : ℕ) (bs : List Block) (at : ℕ) (b : Block) : Type 0 where
    phis_from : ℕ
    from : ℕ
    there : slice_get (fetched_blocks t Final p n bs) at ≡ Some (fetched_block t Final phis_from from b)

  fetched_there : (p n : ℕ) (bs : List Block) (at : ℕ) (b : Block) → slice_get bs at ≡ Some b → IsFetchedAt p n bs at b
  fetched_there p n [] at b e = absurd (cc)
  fetched_there p n (c ∷ bs) zero b e = let is_one : c ≡ b = cc in record { phis_from = p; from = n; there = ap (λ (x : Block). Some (fetched_block t Final p n x)) is_one }
  fetched_there p n (c ∷ bs) (suc at) b e = let x = fetched_there (next_after_phis t p c.phis) (next_after_block t n c) bs at b e in record { phis_from = x.phis_from; from = x.from; there = x.there }

  same_first : (l p n : ℕ) (bs : List Block) → first_where (λ (b : Block). b.label == l) (fetched_blocks t Final p n bs) ≡ first_where (λ (b : Block). b.label == l) bs
  same_first l p n [] = refl
  same_first l p n (b ∷ bs) = ap (λ (o : Option ℕ). if b.label == l then Some 0 else option_map suc o) (same_first l (next_after_phis t p b.phis) (next_after_block t n b) bs)

  same_length : (p n : ℕ) (bs : List Block) → length (fetched_blocks t Final p n bs) ≡ length bs
  same_length p n [] = refl
  same_length p n (b ∷ bs) = ap suc (same_length (next_after_phis t p b.phis) (next_after_block t n b) bs)

  same_position : (l : ℕ) → position_of G l ≡ position_of f l
  same_position l = λ i. unwrap_or (same_first l First Second f.blocks i) (same_length First Second f.blocks i)

  -- ---- new names

  new_at : (at : ℕ) (c : Block) → slice_get G.blocks at ≡ Some c → (j : Instr) (n : ℕ) → IsListed j c.instrs → result_of j ≡ Some n → First ≤ n → n < After → IsNew W j n
  new_at at c there j n l e low high = record { low = low; high = high; kind = told n G (once m k f t word keeps fit n low) at c j there l e }

  new_fetches : (at : ℕ) (c : Block) → slice_get G.blocks at ≡ Some c → (n : ℕ) (xs : List Operand) → First ≤ n → next_after_all t n xs ≤ After → ((j : Instr) → IsListed j (fetches_of_all t n xs) → IsListed j c.instrs) → (j : Instr) (v : ℕ) → IsListed j (fetches_of_all t n xs) → result_of j ≡ Some v → IsNew W j v
  new_fetches at c there n xs low high inside j v l e =
      let r = fetch_range t n xs j v l e in
      let above : n ≤ v = r.0 in
      let under : v < next_after_all t n xs = r.1 in
      new_at at c there j v (inside j l) e (omega (arith, low, above)) (omega (arith, high, under))

  -- a phi's fetch is made by the block from which the operand comes
  end_made : (l : ℕ) → is_label k f l ≡ true → (n : ℕ) (fetch : Fetch) → IsListed (fetch_into n fetch) (end_at Final l) → First ≤ n → HasMade W (values_at G (position_of G l)) (fetch_into n fetch) n
  end_made l known n fetch h low =
      let x = found m k f t word keeps fit l known in
      let y = fetched_there First Second f.blocks x.at x.block x.there in
      let c : Block = fetched_block t Final y.phis_from y.from x.block in
      let position : position_of G l ≡ x.at = same_position l ∙ ap (position_of f) (sym x.same) ∙ own_label k f keeps.definitions x.at x.block x.there in
      let front : List Instr = fetched_instrs t y.from x.block.instrs in
      let ends : List Instr = end_at Final x.block.label in
      let back : List Instr = fetches_of_all t (next_after_instrs t y.from x.block.instrs) (term_operands x.block.term) in
      let inside : IsListed (fetch_into n fetch) c.instrs = listed_left (fetch_into n fetch) (front ++ ends) back (listed_right (fetch_into n fetch) front ends (subst (λ (label : ℕ). IsListed (fetch_into n fetch) (end_at Final label)) (sym x.same) h)) in
      record {
        low = low;
        listed =
            subst (λ (at : ℕ). IsListed n (values_at G at)) (sym position)
            (subst (λ (o : Option Block). IsListed n (values_in o)) (sym y.there) (made_contains (phi_values c) c.instrs (fetch_into n fetch) n inside (fetch_makes n fetch)));
        kind = told n G (once m k f t word keeps fit n low) x.at c (fetch_into n fetch) y.there inside (fetch_makes n fetch);
      }

  -- ---- what is known where

  table : FitsTable (kinds_with W f) f t
  table v fetch e = let x = fit.table v fetch e in record { right = x.right; gives = x.gives; pointer = ap (λ (o : Option Kind). or_first o (W.kinds (base_of fetch))) x.pointer }

  stays : (v : ℕ) → W.goes v ≡ false
  stays v = refl

  abbrev Knows : ℕ → List ℕ → Operand → Type 0
  Knows block made x = KnowsBase W m f t table stays block made x

  there_known : (block : ℕ) (before now : List ℕ) (v : ℕ) (fetch : Fetch) → fetch_of t (Operand.Local v) ≡ Some fetch → IsThere f block before (base_of fetch) → ((n : ℕ) → IsListed n before → IsListed n now) → IsKnown W f block now (Operand.Local (base_of fetch))
  there_known block before now v fetch e there up =
      Old (base_of fetch) refl (ap (λ (o : Option Kind). is_some o) (fit.table v fetch e).pointer) (λ reach unmade no_param. there reach (λ l. unmade (up (base_of fetch) l)) no_param)

  bases_known : (p : Place) (block : ℕ) (before made : List ℕ) (xs : List Operand) → ((n : ℕ) → IsListed n before → IsListed n made) → Each (HasBase f t) (uses_at p block before xs) → Each (Knows block made) xs
  bases_known p block before made [] up h = tt
  bases_known p block before made (Operand.Local v ∷ xs) up h = (
    λ fetch e now later. there_known block before now v fetch e (λ r b n. h.0 fetch e (record { reaches = r; not_before = b; no_param = n })) (λ n l. later n (up n l)),
    bases_known p block before made xs up h.1,
  )
  bases_known p block before made (Operand.Global n ∷ xs) up h = ((λ fetch e now later. absurd (cc)), bases_known p block before made xs up h)
  bases_known p block before made (Operand.Number z ∷ xs) up h = ((λ fetch e now later. absurd (cc)), bases_known p block before made xs up h)
  bases_known p block before made (Operand.True ∷ xs) up h = ((λ fetch e now later. absurd (cc)), bases_known p block before made xs up h)
  bases_known p block before made (Operand.False ∷ xs) up h = ((λ fetch e now later. absurd (cc)), bases_known p block before made xs up h)
  bases_known p block before made (Operand.Null ∷ xs) up h = ((λ fetch e now later. absurd (cc)), bases_known p block before made xs up h)
  bases_known p block before made (Operand.None ∷ xs) up h = ((λ fetch e now later. absurd (cc)), bases_known p block before made xs up h)
  bases_known p block before made (Operand.Poison ∷ xs) up h = ((λ fetch e now later. absurd (cc)), bases_known p block before made xs up h)

  -- ---- instructions

  instrs_woven : (at : ℕ) (c : Block) → slice_get G.blocks at ≡ Some c → (n spot : ℕ) (before made : List ℕ) (is tail : List Instr) → ((v : ℕ) → IsListed v before → IsListed v made) → Each (HasBase f t) (instr_uses k at spot before is) → Each (LeavesMarks t) is → First ≤ n → next_after_instrs t n is ≤ After → ((j : Instr) → IsListed j (fetched_instrs t n is) → IsListed j c.instrs) → ((now : List ℕ) → ((v : ℕ) → IsListed v (made_by_instrs before is) → IsListed v now) → AreWoven W m f at now [] tail) → AreWoven W m f at made is (fetched_instrs t n is ++ tail)
  instrs_woven at c there n spot before made [] tail up bases marks low high inside rest = rest made up
  instrs_woven at c there n spot before made (i ∷ is) tail up bases marks low high inside rest =
      let next : ℕ = next_after_instr t n i in
      let fetches : List Instr = fetches_of_all t n (instr_operands i) in
      let one : List Instr = fetched_instr t n i in
      let others : List Instr = fetched_instrs t next is in
      let rises : n ≤ next = fetch_rises t n (instr_operands i) in
      let more : next ≤ next_after_instrs t next is = instrs_rise t next is in
      let now : List ℕ = made_by (with_fetched t n i) ++ made_by_instrs made fetches in
      let grown : (v : ℕ) → IsListed v (made_by i ++ before) → IsListed v now =
      λ v l. ⊎_elim
      (λ here. listed_left v (made_by (with_fetched t n i)) (made_by_instrs made fetches) (subst (λ (o : Option ℕ). IsListed v (option_to_list o)) (sym (with_result t n i)) here))
      (λ old. listed_right v (made_by (with_fetched t n i)) (made_by_instrs made fetches) (made_grows fetches made v (up v old)))
      (listed_either v (made_by i) before l)
      in
      subst (λ (l : List Instr). AreWoven W m f at made (i ∷ is) l) (sym (append_assoc one others tail))
      (fetched_woven W m f t table stays at made n i is (others ++ tail)
      (bases_known (instr_place k at spot) at before made (instr_operands i) up (each_left (HasBase f t) (uses_at (instr_place k at spot) at before (instr_operands i)) (instr_uses k at (spot + 1) (made_by i ++ before) is) bases))
      marks.0
      (new_fetches at c there n (instr_operands i) low (omega (arith, more, high)) (λ j l. inside j (listed_left j one others (listed_left j fetches (with_fetched t n i ∷ []) l))))
      (instrs_woven at c there next (spot + 1) (made_by i ++ before) now is tail grown
      (each_right (HasBase f t) (uses_at (instr_place k at spot) at before (instr_operands i)) (instr_uses k at (spot + 1) (made_by i ++ before) is) bases)
      marks.1 (omega (arith, low, rises)) high (λ j l. inside j (listed_right j one others l)) rest))

  -- ---- a block

  operands_first : (e : Terminator) (P : Operand → Type 0) → Each P (ending_operands e) → Each P (term_operands e)
  operands_first (Terminator.Jump label) P h = h
  operands_first (Terminator.Branch c a b) P h = h
  operands_first (Terminator.Switch a default cases) P h = (h.0, tt)
  operands_first (Terminator.Ret value) P h = h
  operands_first Terminator.Unreachable P h = h

  abbrev InPlace : ℕ → Operand → Operand → Type 0
  InPlace from = IsInPlace W f (values_at G (position_of G from))

  incoming_woven : (n : ℕ) (is : List Incoming) → HasEnds f t First Second Final n is → LabelsKnown m k f t word keeps fit is → First ≤ n → Pairwise (IncomingStays InPlace) is (fetched_incoming t n is)
  incoming_woven n [] ends known low = Empty
  incoming_woven n (i ∷ is) ends known low =
      let up : n ≤ next_after t n i.value = fetch_rises t n (i.value ∷ []) in
      Pair i (record { value = fetched_operand t n i.value; from = i.from }) is (fetched_incoming t (next_after t n i.value) is)
      (record { from = refl; value = one_in_place W m f t table stays (values_at G (position_of G i.from)) n i.value (fetch_of t i.value) refl (λ fetch e. end_made i.from known.0 n fetch (ends.0 fetch e) low) })
      (incoming_woven (next_after t n i.value) is ends.1 known.1 (omega (arith, low, up)))

  phis_woven : (block at n : ℕ) (ps : List Phi) → HaveEnds f t First Second Final n ps → Passing (unknown m k f t word keeps fit) (phi_parts k block at ps) → First ≤ n → Pairwise (PhiStays InPlace) ps (fetched_phis t n ps)
  phis_woven block at n [] ends pass low = Empty
  phis_woven block at n (p ∷ ps) ends pass low =
      let up : n ≤ next_after_phi t n p = fetch_rises t n (map (λ (i : Incoming). i.value) p.incoming) in
      Pair p (fetched_phi t n p) ps (fetched_phis t (next_after_phi t n p) ps)
      (record { result = refl; ty = refl; incoming = incoming_woven n p.incoming ends.0 (phi_labels m k f t word keeps fit (instr_place k block at) p pass.0) low })
      (phis_woven block (at + 1) (next_after_phi t n p) ps ends.1 pass.1 (omega (arith, low, up)))

  same_phi_values : (before : List ℕ) (p : ℕ) (ps : List Phi) → made_by_phis before (fetched_phis t p ps) ≡ made_by_phis before ps
  same_phi_values before p [] = refl
  same_phi_values before p (x ∷ ps) = same_phi_values (x.result ∷ before) (next_after_phi t p x) ps

  block_woven : (at p n : ℕ) (b : Block) → slice_get f.blocks at ≡ Some b → slice_get G.blocks at ≡ Some (fetched_block t Final p n b) → HaveEnds f t First Second Final p b.phis → Passing (unknown m k f t word keeps fit) (block_parts k at b) → Each (HasBase f t) (block_uses f k at b) → Each (LeavesMarks t) b.instrs → First ≤ p → First ≤ n → next_after_block t n b ≤ After → IsWovenBlock W m f G at b (fetched_block t Final p n b)
  block_woven at p n b here there ends pass bases marks phis_low low high =
      let c : Block = fetched_block t Final p n b in
      let last : ℕ = next_after_instrs t n b.instrs in
      let front : List Instr = fetched_instrs t n b.instrs in
      let es : List Instr = end_at Final b.label in
      let back : List Instr = fetches_of_all t last (term_operands b.term) in
      let uses = based_block m k f t word keeps fit at b bases in
      let rises : n ≤ last = instrs_rise t n b.instrs in
      let more : last ≤ next_after_block t n b = fetch_rises t last (term_operands b.term) in
      let last_low : First ≤ last = omega (arith, low, rises) in
      let phis : phi_values c ≡ phi_values b = same_phi_values [] p b.phis in
      let position : position_of f b.label ≡ at = own_label k f keeps.definitions at b here in
      let values : values_at f at ≡ block_values b = ap (λ (o : Option Block). values_in o) here in
      let new_back : (j : Instr) (v : ℕ) → IsListed j back → result_of j ≡ Some v → IsNew W j v = new_fetches at c there last (term_operands b.term) last_low high (λ j l. listed_right j (front ++ es) back l) in
      let put_end : (j : Instr) → IsListed j es → (now : List ℕ) → ((v : ℕ) → IsListed v (block_values b) → IsListed v now) → IsPutIn W m f at now j =
      λ j l now up.
      let x = final_ends m k f t word keeps fit b.label j l in
      let above : First ≤ x.name = x.low in
      let below : x.name < Second = x.high in
      let up_to : Second ≤ After = second_after in
      let at_end : IsThere f at (block_values b) (base_of x.fetch) = subst (λ (vs : List ℕ). IsThere f at vs (base_of x.fetch)) values (subst (λ (q : ℕ). IsThere f q (values_at f q) (base_of x.fetch)) position x.there) in
      let new : IsNew W (fetch_into x.name x.fetch) x.name = new_at at c there (fetch_into x.name x.fetch) x.name (subst (λ (i : Instr). IsListed i c.instrs) x.same (listed_left j (front ++ es) back (listed_right j front es l))) (fetch_makes x.name x.fetch) above (omega (arith, below, up_to)) in
      subst (IsPutIn W m f at now) (sym x.same)
      (fetch_put W m f at now x.name x.value x.fetch (table x.value x.fetch x.found) new (there_known at (block_values b) now x.value x.fetch x.found at_end up))
      in
      record {
        label = refl;
        phis = phis_woven at 0 p b.phis ends (phis_pass m k f t word keeps fit at b pass) phis_low;
        instrs =
            subst (λ (l : List Instr). AreWoven W m f at (phi_values c) b.instrs l) (sym (append_assoc front es back))
            (instrs_woven at c there n (length b.phis) (phi_values b) (phi_values c) b.instrs (es ++ back) (λ v l. subst (IsListed v) (sym phis) l) uses.of_instrs marks low (omega (arith, more, high))
            (λ j l. listed_left j (front ++ es) back (listed_left j front es l))
            (λ now up.
            let later : List ℕ = made_by_instrs now es in
            listed_woven W m f at now es [] back (λ j l more grown. put_end j l more (λ v h. grown v (up v h)))
            (subst (λ (l : List Instr). AreWoven W m f at later [] l) (append_none back)
            (puts_woven W m f t table stays at later last (term_operands b.term) [] []
            (operands_first b.term (Knows at later) (bases_known (instr_place k at (length b.phis + length b.instrs)) at (block_values b) later (ending_operands b.term) (λ v h. made_grows es now v (up v h)) uses.of_term))
            new_back (Done (made_by_instrs later back))))));
        term =
            term_fetched W m f t table stays (block_values c) last b.term
            (all_in_place W m f t table stays (block_values c) last (term_operands b.term)
            (λ j v l e. let x = new_back j v l e in record { low = x.low; listed = made_contains (phi_values c) c.instrs j v (listed_right j (front ++ es) back l) e; kind = x.kind }));
      }

  -- ---- all blocks

  blocks_woven : (at p n : ℕ) (ends : List (List Instr)) (bs : List Block) → ((i : ℕ) (b : Block) → slice_get bs i ≡ Some b → slice_get f.blocks (at + i) ≡ Some b) → ((i : ℕ) (c : Block) → slice_get (fetched_blocks t Final p n bs) i ≡ Some c → slice_get G.blocks (at + i) ≡ Some c) → length ends ≡ First → IsGrown f t First Second (ends_of_blocks t p ends bs) Final → Each (λ (b : Block). AreGood f t First Second b.phis) bs → Passing (unknown m k f t word keeps fit) (blocks_parts k at bs) → Each (HasBase f t) (blocks_uses f k at bs) → Each (λ (b : Block). Each (LeavesMarks t) b.instrs) bs → First ≤ p → next_after_phis_by t p bs ≤ Second → First ≤ n → next_after_blocks t n bs ≤ After → AreWovenBlocks W m f G at bs (fetched_blocks t Final p n bs)
  blocks_woven at p n ends [] here there size grown good pass bases marks phis_low phis_high low high = NoBlock at
  blocks_woven at p n ends (b ∷ bs) here there size grown good pass bases marks phis_low phis_high low high =
      let P : Place × Part → Type 0 = λ x. unknown m k f t word keeps fit x.0 x.1 ≡ false in
      let p2 : ℕ = next_after_phis t p b.phis in
      let n2 : ℕ = next_after_block t n b in
      let mid : List (List Instr) = ends_of_phis t p ends b.phis in
      let p_rises : p ≤ p2 = phis_rise t p b.phis in
      let p_more : p2 ≤ next_after_phis_by t p2 bs = blocks_rise t p2 bs in
      let n_rises : n ≤ n2 = block_rises t n b in
      let n_more : n2 ≤ next_after_blocks t n2 bs = all_rise t n2 bs in
      let now : IsGrown f t First Second ends mid = grown_phis f t First Second p ends b.phis good.0 size phis_low (omega (arith, p_more, phis_high)) in
      let rest : IsGrown f t First Second mid (ends_of_blocks t p2 mid bs) = grown_blocks f t First Second p2 mid bs good.1 (now.size ∙ size) (omega (arith, phis_low, p_rises)) phis_high in
      let whole : IsGrown f t First Second mid Final = grown_both f t First Second mid (ends_of_blocks t p2 mid bs) Final rest grown in
      let none : at + 0 ≡ at = omega arith in
      OneBlock at b (fetched_block t Final p n b) bs (fetched_blocks t Final p2 n2 bs)
      (block_woven at p n b (subst (λ (i : ℕ). slice_get f.blocks i ≡ Some b) none (here 0 b refl)) (subst (λ (i : ℕ). slice_get G.blocks i ≡ Some (fetched_block t Final p n b)) none (there 0 (fetched_block t Final p n b) refl))
      (has_phis f t First Second p ends b.phis good.0 size phis_low (omega (arith, p_more, phis_high)) Final whole)
      (each_left P (block_parts k at b) (blocks_parts k (at + 1) bs) pass)
      (each_left (HasBase f t) (block_uses f k at b) (blocks_uses f k (at + 1) bs) bases)
      marks.0 phis_low low (omega (arith, n_more, high)))
      (blocks_woven (at + 1) p2 n2 mid bs
      (λ i d e. let next : at + suc i ≡ at + 1 + i = omega arith in subst (λ (x : ℕ). slice_get f.blocks x ≡ Some d) next (here (suc i) d e))
      (λ i d e. let next : at + suc i ≡ at + 1 + i = omega arith in subst (λ (x : ℕ). slice_get G.blocks x ≡ Some d) next (there (suc i) d e))
      (now.size ∙ size) grown good.1
      (each_right P (block_parts k at b) (blocks_parts k (at + 1) bs) pass)
      (each_right (HasBase f t) (block_uses f k at b) (blocks_uses f k (at + 1) bs) bases)
      marks.1 (omega (arith, phis_low, p_rises)) phis_high (omega (arith, low, n_rises)) high)

  same_final : IsGrown f t First Second Final Final
  same_final = record { size = refl; keeps = λ l j h. h; all = λ h. h }

  pub fetches_woven : IsWoven W m f G
  fetches_woven =
      record {
        name = refl;
        result = refl;
        params = refl;
        coroutine = refl;
        first = refl;
        after =
            let up : First ≤ Second = first_second in
            let more : Second ≤ After = second_after in
            let e : length (f.names ++ numbered_names word (After - First)) ≡ First + length (numbered_names word (After - First)) = length-append f.names (numbered_names word (After - First)) in
            let d : length (numbered_names word (After - First)) ≡ After - First = numbered_length word (After - First) in
            omega (arith, up, more, e, d);
        grows = let up : First ≤ Second = first_second in let more : Second ≤ After = second_after in omega (arith, up, more);
        blocks =
            blocks_woven 0 First Second (start m k f t word keeps fit) f.blocks
            (λ i b e. let same : i ≡ 0 + i = omega arith in subst (λ (x : ℕ). slice_get f.blocks x ≡ Some b) same e)
            (λ i c e. let same : i ≡ 0 + i = omega arith in subst (λ (x : ℕ). slice_get G.blocks x ≡ Some c) same e)
            (no_names m k f t word keeps fit) same_final (all_good m k f t word keeps fit) (all_pass m k f t word keeps fit) fit.bases fit.marks (omega arith) (omega arith) first_second (omega arith);
        fronts = tt;
        once = once m k f t word keeps fit;
      }
