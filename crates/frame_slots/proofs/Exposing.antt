-- The names that are exposed.
use Rattle.std.proofs.Common.{◌≡◌, ℕ, Bool, true, false, ◌||◌, List, [], ◌∷◌, refl}
use Rattle.std.specs.Prelude.{◌&&◌, not, bit_or, if◌then◌else◌}
use Rattle.std.specs.List.{list_any}
use Rattle.ir_model.specs.Names.{is_local}
use Rattle.ir_model.specs.declared.instr.Incoming.{Incoming}
use Rattle.ir_model.specs.declared.instr.Instr.{Instr}
use Rattle.ir_model.specs.declared.instr.Phi.{Phi}
use Rattle.ir_model.specs.declared.module.Block.{Block}
use Rattle.ir_paths.specs.Slots.{exposed_in_block, exposes, is_memcpy, is_no_use, occurs, occurs_in_phi, occurs_in_term}
use Rattle.frame_slots.proofs.Marks.{Marks, marks_args, marks_none, marks_operand, marks_or, marks_same, or_again}
use Rattle.frame_slots.proofs.Occurring.{marks_occurring, marks_term}
use Rattle.frame_slots.specs.Words.{block_word, blocks_word, exposed, incoming_word, instrs_word, occurring, phis_word, with_operand}

or_none : (b : Bool) → b ≡ (b || false)
or_none true = refl
or_none false = refl

module _ (words : List ℕ) where
  unless_two : (a b : Bool) (t : ℕ → Bool) (word : ℕ) → Marks words t word → Marks words (λ v. (not a && not b) && t v) (if a then 0 else if b then 0 else word)
  unless_two true b t word m = marks_none words
  unless_two false true t word m = marks_none words
  unless_two false false t word m = m

  pub marks_exposed : (i : Instr) → Marks words (λ v. exposes v i) (exposed words i)
  marks_exposed (Instr.Binary name op flags ty a b) = marks_occurring words (Instr.Binary name op flags ty a b)
  marks_exposed (Instr.Icmp name pred ty a b) = marks_occurring words (Instr.Icmp name pred ty a b)
  marks_exposed (Instr.Select name x a b) = marks_occurring words (Instr.Select name x a b)
  marks_exposed (Instr.Cast name op nneg arg to) = marks_occurring words (Instr.Cast name op nneg arg to)
  marks_exposed (Instr.Alloca name ty align) = marks_none words
  marks_exposed (Instr.Load name ty p align) = marks_none words
  marks_exposed (Instr.Store arg p align) = marks_operand words (λ v. false) 0 (marks_none words) arg.value
  marks_exposed (Instr.Gep name inbounds ty base indices) = marks_args words (λ v. false) 0 (marks_none words) indices
  marks_exposed (Instr.Call result must_tail ty callee args) =
      unless_two (is_no_use callee) (is_memcpy callee) (λ v. occurs v (Instr.Call result must_tail ty callee args)) (occurring words (Instr.Call result must_tail ty callee args)) (marks_occurring words (Instr.Call result must_tail ty callee args))

  marks_incoming : (t : ℕ → Bool) (word : ℕ) → Marks words t word → (is : List Incoming) → Marks words (λ v. t v || list_any (λ i. is_local v i.value) is) (incoming_word words word is)
  marks_incoming t word m [] = marks_same words t (λ v. t v || false) word (λ v. or_none (t v)) m
  marks_incoming t word m (i ∷ is) =
      marks_same words (λ v. (t v || is_local v i.value) || list_any (λ i. is_local v i.value) is) (λ v. t v || list_any (λ i. is_local v i.value) (i ∷ is)) (incoming_word words (with_operand words word i.value) is)
      (λ v. or_again words (t v) (is_local v i.value) (list_any (λ i. is_local v i.value) is))
      (marks_incoming (λ v. t v || is_local v i.value) (with_operand words word i.value) (marks_operand words t word m i.value) is)

  marks_phis : (t : ℕ → Bool) (word : ℕ) → Marks words t word → (ps : List Phi) → Marks words (λ v. t v || list_any (occurs_in_phi v) ps) (phis_word words word ps)
  marks_phis t word m [] = marks_same words t (λ v. t v || false) word (λ v. or_none (t v)) m
  marks_phis t word m (p ∷ ps) =
      marks_same words (λ v. (t v || occurs_in_phi v p) || list_any (occurs_in_phi v) ps) (λ v. t v || list_any (occurs_in_phi v) (p ∷ ps)) (phis_word words (incoming_word words word p.incoming) ps)
      (λ v. or_again words (t v) (occurs_in_phi v p) (list_any (occurs_in_phi v) ps))
      (marks_phis (λ v. t v || occurs_in_phi v p) (incoming_word words word p.incoming) (marks_incoming t word m p.incoming) ps)

  marks_instrs : (t : ℕ → Bool) (word : ℕ) → Marks words t word → (is : List Instr) → Marks words (λ v. t v || list_any (exposes v) is) (instrs_word words word is)
  marks_instrs t word m [] = marks_same words t (λ v. t v || false) word (λ v. or_none (t v)) m
  marks_instrs t word m (i ∷ is) =
      marks_same words (λ v. (t v || exposes v i) || list_any (exposes v) is) (λ v. t v || list_any (exposes v) (i ∷ is)) (instrs_word words (bit_or word (exposed words i)) is)
      (λ v. or_again words (t v) (exposes v i) (list_any (exposes v) is))
      (marks_instrs (λ v. t v || exposes v i) (bit_or word (exposed words i)) (marks_or words t (λ v. exposes v i) word (exposed words i) m (marks_exposed i)) is)

  marks_block : (t : ℕ → Bool) (word : ℕ) → Marks words t word → (b : Block) → Marks words (λ v. t v || exposed_in_block v b) (block_word words word b)
  marks_block t word m b =
      let phis = phis_word words word b.phis in
      let instrs = instrs_word words phis b.instrs in
      marks_same words (λ v. ((t v || list_any (occurs_in_phi v) b.phis) || list_any (exposes v) b.instrs) || occurs_in_term v b.term) (λ v. t v || exposed_in_block v b) (block_word words word b)
      (λ v. regroup (t v) (list_any (occurs_in_phi v) b.phis) (list_any (exposes v) b.instrs) (occurs_in_term v b.term))
      (marks_term words (λ v. (t v || list_any (occurs_in_phi v) b.phis) || list_any (exposes v) b.instrs) instrs
      (marks_instrs (λ v. t v || list_any (occurs_in_phi v) b.phis) phis (marks_phis t word m b.phis) b.instrs) b.term)
    where
      regroup : (a b c d : Bool) → (((a || b) || c) || d) ≡ (a || ((b || c) || d))
      regroup true b c d = refl
      regroup false b c d = refl

  pub marks_blocks : (t : ℕ → Bool) (word : ℕ) → Marks words t word → (bs : List Block) → Marks words (λ v. t v || list_any (exposed_in_block v) bs) (blocks_word words word bs)
  marks_blocks t word m [] = marks_same words t (λ v. t v || false) word (λ v. or_none (t v)) m
  marks_blocks t word m (b ∷ bs) =
      marks_same words (λ v. (t v || exposed_in_block v b) || list_any (exposed_in_block v) bs) (λ v. t v || list_any (exposed_in_block v) (b ∷ bs)) (blocks_word words (block_word words word b) bs)
      (λ v. or_again words (t v) (exposed_in_block v b) (list_any (exposed_in_block v) bs))
      (marks_blocks (λ v. t v || exposed_in_block v b) (block_word words word b) (marks_block t word m b) bs)
