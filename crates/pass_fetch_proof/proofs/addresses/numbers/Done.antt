-- What the instruction that adds a literal distance to an address does.
use Rattle.std.proofs.Common.{◌≡◌, ℕ, ◌+◌, ◌*◌, ◌%◌, ◌^◌, ◌<◌, Bool, false, [], ◌∷◌, Option, Some, ap, ◌∙◌, arith, if◌then◌else◌, ◌==◌, ◌&&◌}
use Rattle.std.specs.Prelude.{pos}
use Rattle.std.proofs.lemmas.Bool.{lt-ltb}
use Rattle.ir_model.specs.Ty.{int, ptr}
use Rattle.ir_model.specs.declared.operand.Operand.{Operand}
use Rattle.pass_edges_proof.specs.pass_intrinsics.Lowered.{address, number_arg}
use Rattle.pass_edges_proof.proofs.run_ints.Wraps.{bits_of-signed}
use Rattle.pass_edges_proof.specs.run_ints.declared.num.Num.{Num}
use Rattle.pass_edges_proof.proofs.run_laws.access.Done.{gep_done}
use Rattle.pass_edges_proof.specs.run_laws.access.Lines.{pointer_at}
use Rattle.pass_edges_proof.specs.run_memory.Pointers.{offset_of}
use Rattle.pass_edges_proof.specs.run_memory.declared.pointer.Value.{Value}
use Rattle.pass_edges_proof.specs.run_step.Step.{Context, Done, Work, instr_action, set_value, value_at}
use Rattle.pass_edges_proof.specs.run_step.Values.{distance, index_of, indices_of, integer, number_of_width, times}

-- ---- numbers

number_is : (d : ℕ) → d < 2 ^ 64 → index_of (number_of_width 64 (Value.Int (record { width = 64; bits = d }))) ≡ Some d
number_is d lt
    = ap (λ (t : Bool). index_of (if (64 == 64) && t then Num.Is (record { width = 64; bits = d }) else Num.Poison))
    (lt-ltb d (2 ^ 64) lt) ∙ ap Some (bits_of-signed 64 d lt)

-- a literal is the index that it says
index_64 : (d : ℕ) → d < 2 ^ 64 → index_of (number_of_width 64 (integer 64 (pos d))) ≡ Some d
index_64 d lt = ap (λ (b : ℕ). index_of (number_of_width 64 (Value.Int (record { width = 64; bits = b })))) small
    ∙ number_is d lt
  where
    small : d % 2 ^ 64 ≡ d
    small = omega arith

module _ (c : Context) (w : Work) where
  bytes_far : (d : ℕ) → d < 2 ^ 64 → distance c.code (int 8) (indices_of c.code w.values (number_arg 64 (pos d) ∷ []))
      ≡ Some d
  bytes_far d lt = ap (λ (i : Option ℕ). times 1 i) (index_64 d lt) ∙ ap Some one
    where
      one : (1 * d) % 2 ^ 64 ≡ d
      one = omega arith

  -- ---- addresses

  pub address_done : (r b o d : ℕ) (p : Operand) → value_at c w ptr p ≡ pointer_at b o → o + d < 2 ^ 64
      → instr_action c w (address r p (pos d)) ≡ Done (set_value w r (pointer_at b (o + d)))
  address_done r b o d p leads small =
      gep_done c w r b d (offset_of o) false (int 8) p (number_arg 64 (pos d) ∷ []) leads (bytes_far d (omega arith))
      (λ e. absurd (cc))
      ∙ ap (λ (k : ℕ). Done (set_value w r (pointer_at b k))) wraps
    where
      wraps : (o + d) % 2 ^ 64 ≡ o + d
      wraps = omega arith
