-- Where values are fetched before their uses, a function can still be written.
use Rattle.std.proofs.Common.{◌≡◌, ℕ, zero, suc, ◌-◌, Bool, true, List, [], ◌∷◌, ◌++◌, length, replicate}
use Rattle.std.specs.Prelude.{None, Option, Some, slice_get, slice_set}
use Rattle.pass_edges_proof.specs.text_names.Spelling.{is_name_text}
use Rattle.pass_edges_proof.proofs.ir_laws.facts.Members.{each_joined, joined_names}
use Rattle.pass_edges_proof.specs.ir_parts.Contents.{arg_types, ending_types, instr_operands}
use Rattle.ir_model.specs.Ty.{Ty}
use Rattle.ir_model.specs.declared.instr.Incoming.{Incoming}
use Rattle.ir_model.specs.declared.instr.Instr.{Instr}
use Rattle.ir_model.specs.declared.instr.Phi.{Phi}
use Rattle.ir_model.specs.declared.instr.Terminator.{Terminator}
use Rattle.ir_model.specs.declared.module.Block.{Block}
use Rattle.ir_model.specs.declared.module.Function.{Function}
use Rattle.ir_model.specs.declared.operand.Arg.{Arg}
use Rattle.ir_model.specs.declared.operand.Callee.{Callee}
use Rattle.ir_model.specs.declared.operand.Operand.{Operand}
use Rattle.pass_fetch_proof.proofs.fetch.spelled.Names.{all_numbered}
use Rattle.pass_edges_proof.proofs.rule_laws.texts.spelled.Types.{byte_spelled, word_spelled}
use Rattle.pass_edges_proof.specs.rule_laws.texts.spelled.Spelled.{IsSpelled}
use Rattle.pass_edges_proof.specs.rule_laws.rules.spelled.Spelled.{IsSpelledBlock, IsSpelledFunction, IsSpelledInstr, MayStand}
use Rattle.pass_edges_proof.specs.run_laws.changed.Changed.{Each}
use Rattle.pass_edges_proof.specs.pass_fetch.Blocks.{end_at, ends_of_blocks, ends_of_incoming, ends_of_phis, fetched_block, fetched_blocks, fetched_phis, next_after_block, next_after_blocks, next_after_phi, next_after_phis, next_after_phis_by, numbered_names, with_end, with_fetches}
use Rattle.pass_edges_proof.specs.pass_fetch.Fetching.{callee_by, fetch_at, fetch_into, fetch_of, fetched_args, fetches_by, fetches_of, fetches_of_all, next_after}
use Rattle.pass_edges_proof.specs.pass_fetch.Instrs.{fetched_instr, fetched_instrs, fetched_term, next_after_instr, next_after_instrs, term_operands, with_fetched}
use Rattle.pass_edges_proof.specs.pass_fetch.declared.fetch.Fetch.{Fetch}

-- ---- lists

pub each_set : {A : Type 0} (P : A → Type 0) (xs : List A) (at : ℕ) (x : A) → Each P xs → P x → Each P (slice_set xs at x)
each_set P [] at x h k = tt
each_set P (y ∷ xs) zero x h k = (k, h.1)
each_set P (y ∷ xs) (suc at) x h k = (h.0, each_set P xs at x h.1 k)

pub each_same : {A : Type 0} (P : A → Type 0) (n : ℕ) (x : A) → P x → Each P (replicate n x)
each_same P zero x h = tt
each_same P (suc n) x h = (h, each_same P n x h)

-- ---- how values are fetched

abbrev pub IsSpelledFetch : Option Fetch → Type 0
IsSpelledFetch None = Unit {0}
IsSpelledFetch (Some (Fetch.Load ty cell)) = IsSpelled ty
IsSpelledFetch (Some (Fetch.Address base distance)) = Unit {0}

found_spelled : (t : List (Option Fetch)) (v : ℕ) → Each IsSpelledFetch t → IsSpelledFetch (fetch_at (slice_get t v))
found_spelled [] v h = tt
found_spelled (o ∷ t) zero h = h.0
found_spelled (o ∷ t) (suc v) h = found_spelled t v h.1

into_spelled : (n : ℕ) (f : Fetch) → IsSpelledFetch (Some f) → IsSpelledInstr (fetch_into n f)
into_spelled n (Fetch.Load ty cell) h = record { types = (h, tt); stands = tt }
into_spelled n (Fetch.Address base distance) h = record { types = (byte_spelled, (word_spelled, tt)); stands = tt }

by_spelled : (n : ℕ) (o : Option Fetch) → IsSpelledFetch o → Each IsSpelledInstr (fetches_by n o)
by_spelled n None h = tt
by_spelled n (Some f) h = (into_spelled n f h, tt)

ending_spelled : (t : List (Option Fetch)) (n : ℕ) (u : Terminator) → Each IsSpelled (ending_types u) → Each IsSpelled (ending_types (fetched_term t n u))
ending_spelled t n (Terminator.Jump label) h = tt
ending_spelled t n (Terminator.Branch c a b) h = tt
ending_spelled t n (Terminator.Switch arg default cases) h = h
ending_spelled t n (Terminator.Ret None) h = tt
ending_spelled t n (Terminator.Ret (Some a)) h = h
ending_spelled t n Terminator.Unreachable h = tt

module _ (t : List (Option Fetch)) (spelled : Each IsSpelledFetch t) where
  of_spelled : (x : Operand) → IsSpelledFetch (fetch_of t x)
  of_spelled (Operand.Local v) = found_spelled t v spelled
  of_spelled (Operand.Global n) = tt
  of_spelled (Operand.Number z) = tt
  of_spelled Operand.True = tt
  of_spelled Operand.False = tt
  of_spelled Operand.Null = tt
  of_spelled Operand.None = tt
  of_spelled Operand.Poison = tt

  all_spelled : (n : ℕ) (xs : List Operand) → Each IsSpelledInstr (fetches_of_all t n xs)
  all_spelled n [] = tt
  all_spelled n (x ∷ xs) = each_joined IsSpelledInstr (fetches_of t n x) (fetches_of_all t (next_after t n x) xs) (by_spelled n (fetch_of t x) (of_spelled x)) (all_spelled (next_after t n x) xs)

  -- ---- instructions

  args_spelled : (n : ℕ) (args : List Arg) → Each IsSpelled (arg_types args) → Each IsSpelled (arg_types (fetched_args t n args))
  args_spelled n [] h = tt
  args_spelled n (a ∷ args) h = (h.0, args_spelled (next_after t n a.value) args h.1)

  local_stands : (r : Option ℕ) (must_tail : Bool) (ty : Option Ty) (args : List Arg) (n v : ℕ) (o : Option Fetch) → MayStand (Instr.Call r must_tail ty (callee_by n o (Callee.Local v)) args)
  local_stands r must_tail ty args n v None = tt
  local_stands r must_tail ty args n v (Some f) = tt

  called_spelled : (r : Option ℕ) (must_tail : Bool) (ty : Option Ty) (c : Callee) (args : List Arg) (n : ℕ) → IsSpelledInstr (Instr.Call r must_tail ty c args) → IsSpelledInstr (with_fetched t n (Instr.Call r must_tail ty c args))
  called_spelled r must_tail None (Callee.Named x) args n h = record { types = args_spelled n args h.types; stands = h.stands }
  called_spelled r must_tail None (Callee.Allocator a) args n h = record { types = args_spelled n args h.types; stands = tt }
  called_spelled r must_tail None (Callee.Intrinsic x) args n h = record { types = args_spelled n args h.types; stands = tt }
  called_spelled r must_tail None (Callee.Local v) args n h =
      record { types = args_spelled (next_after t n (Operand.Local v)) args h.types; stands = local_stands r must_tail None (fetched_args t (next_after t n (Operand.Local v)) args) n v (fetch_at (slice_get t v)) }
  called_spelled r must_tail (Some u) (Callee.Named x) args n h = record { types = (h.types.0, args_spelled n args h.types.1); stands = h.stands }
  called_spelled r must_tail (Some u) (Callee.Allocator a) args n h = record { types = (h.types.0, args_spelled n args h.types.1); stands = tt }
  called_spelled r must_tail (Some u) (Callee.Intrinsic x) args n h = record { types = (h.types.0, args_spelled n args h.types.1); stands = tt }
  called_spelled r must_tail (Some u) (Callee.Local v) args n h =
      record {
        types = (h.types.0, args_spelled (next_after t n (Operand.Local v)) args h.types.1);
        stands = local_stands r must_tail (Some u) (fetched_args t (next_after t n (Operand.Local v)) args) n v (fetch_at (slice_get t v));
      }

  with_spelled : (n : ℕ) (i : Instr) → IsSpelledInstr i → IsSpelledInstr (with_fetched t n i)
  with_spelled n (Instr.Binary r op flags ty a b) h = record { types = h.types; stands = h.stands }
  with_spelled n (Instr.Icmp r pred ty a b) h = record { types = h.types; stands = tt }
  with_spelled n (Instr.Select r c a b) h = record { types = h.types; stands = tt }
  with_spelled n (Instr.Cast r op nneg arg to) h = record { types = h.types; stands = h.stands }
  with_spelled n (Instr.Alloca r ty align) h = record { types = h.types; stands = tt }
  with_spelled n (Instr.Load r ty p align) h = record { types = h.types; stands = tt }
  with_spelled n (Instr.Store arg p align) h = record { types = h.types; stands = tt }
  with_spelled n (Instr.Gep r inbounds ty base indices) h = record { types = (h.types.0, args_spelled (next_after t n base) indices h.types.1); stands = tt }
  with_spelled n (Instr.Call r must_tail ty c args) h = called_spelled r must_tail ty c args n h

  pub instr_fetched : (n : ℕ) (i : Instr) → IsSpelledInstr i → Each IsSpelledInstr (fetched_instr t n i)
  instr_fetched n i h = each_joined IsSpelledInstr (fetches_of_all t n (instr_operands i)) (with_fetched t n i ∷ []) (all_spelled n (instr_operands i)) (with_spelled n i h, tt)

  instrs_spelled : (n : ℕ) (is : List Instr) → Each IsSpelledInstr is → Each IsSpelledInstr (fetched_instrs t n is)
  instrs_spelled n [] h = tt
  instrs_spelled n (i ∷ is) h = each_joined IsSpelledInstr (fetched_instr t n i) (fetched_instrs t (next_after_instr t n i) is) (instr_fetched n i h.0) (instrs_spelled (next_after_instr t n i) is h.1)

  -- ---- what is fetched for phis

  abbrev AreSpelledEnds : List (List Instr) → Type 0
  AreSpelledEnds ends = Each (Each IsSpelledInstr) ends

  end_spelled : (ends : List (List Instr)) (label : ℕ) → AreSpelledEnds ends → Each IsSpelledInstr (end_at ends label)
  end_spelled [] label h = tt
  end_spelled (is ∷ ends) zero h = h.0
  end_spelled (is ∷ ends) (suc label) h = end_spelled ends label h.1

  one_end : (ends : List (List Instr)) (label n : ℕ) (o : Option Fetch) → IsSpelledFetch o → AreSpelledEnds ends → AreSpelledEnds (with_end ends label n o)
  one_end ends label n None k h = h
  one_end ends label n (Some f) k h = each_set (Each IsSpelledInstr) ends label (end_at ends label ++ fetch_into n f ∷ []) h (each_joined IsSpelledInstr (end_at ends label) (fetch_into n f ∷ []) (end_spelled ends label h) (into_spelled n f k, tt))

  incoming_ends : (n : ℕ) (ends : List (List Instr)) (is : List Incoming) → AreSpelledEnds ends → AreSpelledEnds (ends_of_incoming t n ends is)
  incoming_ends n ends [] h = h
  incoming_ends n ends (i ∷ is) h = incoming_ends (next_after t n i.value) (with_end ends i.from n (fetch_of t i.value)) is (one_end ends i.from n (fetch_of t i.value) (of_spelled i.value) h)

  phi_ends : (n : ℕ) (ends : List (List Instr)) (ps : List Phi) → AreSpelledEnds ends → AreSpelledEnds (ends_of_phis t n ends ps)
  phi_ends n ends [] h = h
  phi_ends n ends (p ∷ ps) h = phi_ends (next_after_phi t n p) (ends_of_incoming t n ends p.incoming) ps (incoming_ends n ends p.incoming h)

  block_ends : (n : ℕ) (ends : List (List Instr)) (bs : List Block) → AreSpelledEnds ends → AreSpelledEnds (ends_of_blocks t n ends bs)
  block_ends n ends [] h = h
  block_ends n ends (b ∷ bs) h = block_ends (next_after_phis t n b.phis) (ends_of_phis t n ends b.phis) bs (phi_ends n ends b.phis h)

  -- ---- blocks

  phis_spelled : (n : ℕ) (ps : List Phi) → Each (λ p. IsSpelled p.ty) ps → Each (λ p. IsSpelled p.ty) (fetched_phis t n ps)
  phis_spelled n [] h = tt
  phis_spelled n (p ∷ ps) h = (h.0, phis_spelled (next_after_phi t n p) ps h.1)

  block_spelled : (ends : List (List Instr)) (m n : ℕ) (b : Block) → AreSpelledEnds ends → IsSpelledBlock b → IsSpelledBlock (fetched_block t ends m n b)
  block_spelled ends m n b e h =
      let last : ℕ = next_after_instrs t n b.instrs in
      let front : List Instr = fetched_instrs t n b.instrs ++ end_at ends b.label in
      record {
        phis = phis_spelled m b.phis h.phis;
        instrs =
            each_joined IsSpelledInstr front (fetches_of_all t last (term_operands b.term))
            (each_joined IsSpelledInstr (fetched_instrs t n b.instrs) (end_at ends b.label) (instrs_spelled n b.instrs h.instrs) (end_spelled ends b.label e))
            (all_spelled last (term_operands b.term));
        term = ending_spelled t last b.term h.term;
      }

  blocks_spelled : (ends : List (List Instr)) (m n : ℕ) (bs : List Block) → AreSpelledEnds ends → Each IsSpelledBlock bs → Each IsSpelledBlock (fetched_blocks t ends m n bs)
  blocks_spelled ends m n [] e h = tt
  blocks_spelled ends m n (b ∷ bs) e h = (block_spelled ends m n b e h.0, blocks_spelled ends (next_after_phis t m b.phis) (next_after_block t n b) bs e h.1)

  pub fetches_spelled : (f : Function) (word : List ℕ) → is_name_text word ≡ true → IsSpelledFunction f → IsSpelledFunction (with_fetches f t word)
  fetches_spelled f word named h =
      let first : ℕ = length f.names in
      let second : ℕ = next_after_phis_by t first f.blocks in
      record {
        name = h.name;
        result = h.result;
        params = h.params;
        blocks = blocks_spelled (ends_of_blocks t first (replicate first []) f.blocks) first second f.blocks (block_ends first (replicate first []) f.blocks (each_same (Each IsSpelledInstr) first [] tt)) h.blocks;
        names = joined_names f.names (numbered_names word (next_after_blocks t second f.blocks - first)) h.names (all_numbered word (next_after_blocks t second f.blocks - first) named);
      }
