-- What the small instructions do that stand for coro intrinsics: addresses, pointers that are stored and loaded, and
-- the index.
use Rattle.std.proofs.Common.{◌≡◌, ℕ, ◌%◌, ◌^◌, ◌<◌, ◌≤◌, Bool, List, length, refl, ap, ◌∙◌, subst, arith, if◌then◌else◌, ◌==◌, ◌&&◌}
use Rattle.std.specs.Prelude.{pos}
use Rattle.std.proofs.lemmas.Bool.{lt-ltb}
use Rattle.pass_proofs.specs.ir_model.Ty.{int, ptr}
use Rattle.pass_proofs.specs.ir_model.TypeView.{bits_of}
use Rattle.pass_proofs.specs.ir_model.declared.instr.Instr.{Instr}
use Rattle.pass_proofs.specs.ir_model.declared.ir_type.IntWidth.{IntWidth}
use Rattle.pass_proofs.specs.ir_model.declared.operand.Operand.{Operand}
use Rattle.pass_proofs.specs.pass_intrinsics.Lowered.{load_pointer, number_arg, pointer_arg, store_pointer}
use Rattle.pass_proofs.specs.pass_intrinsics.Shapes.{index_bytes}
use Rattle.pass_split_proof.specs.steps.Small.{IsIndexWidth}
use Rattle.pass_proofs.specs.run_ints.declared.num.Num.{Num}
use Rattle.pass_proofs.proofs.run_laws.access.Done.{load_done, store_done}
use Rattle.pass_proofs.proofs.run_laws.access.Loaded.{stored_back}
use Rattle.pass_proofs.specs.run_laws.access.Lines.{Holds, pointer_at, refilled_at}
use Rattle.pass_proofs.proofs.run_memory.Digits.{length-encode}
use Rattle.pass_proofs.specs.run_memory.Memory.{decode, digits, encode}
use Rattle.pass_proofs.specs.run_memory.declared.block.Byte.{Byte}
use Rattle.pass_proofs.specs.run_memory.declared.pointer.Access.{Access}
use Rattle.pass_proofs.specs.run_memory.declared.pointer.Pointer.{Pointer}
use Rattle.pass_proofs.specs.run_memory.declared.pointer.Value.{Value}
use Rattle.pass_proofs.specs.run_step.Step.{Context, Done, Work, instr_action, set_memory, set_value, value_at}
use Rattle.pass_proofs.specs.run_step.Values.{integer, stored, value_of}

-- numbers that an index holds

byte_is : (j : ℕ) → j < 2 ^ 8 → stored (Access.Int 8) (integer 8 (pos j)) ≡ Value.Int (record { width = 8; bits = j })
byte_is j lt = ap (λ (k : ℕ). stored (Access.Int 8) (Value.Int (record { width = 8; bits = k }))) small
    ∙ ap (λ (t : Bool). value_of (if (8 == 8) && t then Num.Is (record { width = 8; bits = j }) else Num.Poison))
    (lt-ltb j (2 ^ 8) lt)
  where
    small : j % 2 ^ 8 ≡ j
    small = omega arith

word_is : (j : ℕ) → j < 2 ^ 16
    → stored (Access.Int 16) (integer 16 (pos j)) ≡ Value.Int (record { width = 16; bits = j })
word_is j lt = ap (λ (k : ℕ). stored (Access.Int 16) (Value.Int (record { width = 16; bits = k }))) small
    ∙ ap (λ (t : Bool). value_of (if (16 == 16) && t then Num.Is (record { width = 16; bits = j }) else Num.Poison))
    (lt-ltb j (2 ^ 16) lt)
  where
    small : j % 2 ^ 16 ≡ j
    small = omega arith

digits_long : (n j : ℕ) → length (digits n j) ≡ n
digits_long n j = length-encode n (Value.Int (record { width = 0; bits = j }))

module _ (c : Context) (w : Work) where
  -- ---- pointers

  pub pointer_stored : (b o most : ℕ) (x p : Operand) (q : Pointer) (old : List Byte)
      → value_at c w ptr p ≡ pointer_at b o → value_at c w ptr x ≡ Value.Ptr q
      → Holds c.rights w.world.memory b o most old → length old ≡ 8 → 8 ≤ most
      → instr_action c w (store_pointer x p) ≡ Done
      (set_memory w (refilled_at w.world.memory b o (encode 8 (Value.Ptr q))))
  pointer_stored b o most x p q old leads is holds long le =
      store_done c w 8 b o most (pointer_arg x) p old leads holds long refl le
      ∙ ap (λ (v : Value). Done (set_memory w (refilled_at w.world.memory b o (encode 8 (stored Access.Ptr v))))) is

  pub pointer_loaded : (r b o most : ℕ) (p : Operand) (q : Pointer) → value_at c w ptr p ≡ pointer_at b o
      → Holds c.rights w.world.memory b o most (encode 8 (Value.Ptr q)) → 8 ≤ most
      → instr_action c w (load_pointer r p) ≡ Done (set_value w r (Value.Ptr q))
  pointer_loaded r b o most p q leads holds le =
      load_done c w r 8 b o most ptr p (encode 8 (Value.Ptr q)) leads holds (length-encode 8 (Value.Ptr q)) refl le
      ∙ ap (λ (v : Value). Done (set_value w r v)) (stored_back Access.Ptr (Value.Ptr q) (omega arith))

  -- ---- the index, which takes a byte or two

  pub index_stored : (width : IntWidth) (b o j : ℕ) (p : Operand) (old : List Byte) → (width ≡ IntWidth.I8 → j < 2 ^ 8)
      → (width ≡ IntWidth.I16 → j < 2 ^ 16)
      → value_at c w ptr p ≡ pointer_at b o → Holds c.rights w.world.memory b o (index_bytes width) old
      → length old ≡ index_bytes width
      → IsIndexWidth width
      → instr_action c w (Instr.Store (number_arg (bits_of width) (pos j)) p (index_bytes width)) ≡ Done
      (set_memory w (refilled_at w.world.memory b o (digits (index_bytes width) j)))
  index_stored IntWidth.I8 b o j p old eight sixteen leads holds long is =
      store_done c w 1 b o 1 (number_arg 8 (pos j)) p old leads holds long refl (omega arith)
      ∙ ap (λ (v : Value). Done (set_memory w (refilled_at w.world.memory b o (encode 1 v)))) (byte_is j (eight refl))
  index_stored IntWidth.I16 b o j p old eight sixteen leads holds long is =
      store_done c w 2 b o 2 (number_arg 16 (pos j)) p old leads holds long refl (omega arith)
      ∙ ap (λ (v : Value). Done (set_memory w (refilled_at w.world.memory b o (encode 2 v)))) (word_is j (sixteen refl))
  index_stored IntWidth.I1 b o j p old eight sixteen leads holds long is = absurd is
  index_stored IntWidth.I32 b o j p old eight sixteen leads holds long is = absurd is
  index_stored IntWidth.I64 b o j p old eight sixteen leads holds long is = absurd is

  pub index_loaded : (width : IntWidth) (r b o j : ℕ) (p : Operand) → (width ≡ IntWidth.I8 → j < 2 ^ 8)
      → (width ≡ IntWidth.I16 → j < 2 ^ 16)
      → value_at c w ptr p ≡ pointer_at b o
      → Holds c.rights w.world.memory b o (index_bytes width) (digits (index_bytes width) j)
      → IsIndexWidth width
      → instr_action c w (Instr.Load r (int (bits_of width)) p (index_bytes width)) ≡ Done
      (set_value w r (Value.Int (record { width = bits_of width; bits = j })))
  index_loaded IntWidth.I8 r b o j p eight sixteen leads holds is =
      load_done c w r 1 b o 1 (int 8) p (digits 1 j) leads holds (digits_long 1 j) refl (omega arith)
      ∙ ap (λ (v : Value). Done (set_value w r v))
      (subst (λ (v : Value). decode (Access.Int 8) (encode 1 v) ≡ v) (byte_is j (eight refl))
      (stored_back (Access.Int 8) (integer 8 (pos j)) (omega arith)))
  index_loaded IntWidth.I16 r b o j p eight sixteen leads holds is =
      load_done c w r 2 b o 2 (int 16) p (digits 2 j) leads holds (digits_long 2 j) refl (omega arith)
      ∙ ap (λ (v : Value). Done (set_value w r v))
      (subst (λ (v : Value). decode (Access.Int 16) (encode 2 v) ≡ v) (word_is j (sixteen refl))
      (stored_back (Access.Int 16) (integer 16 (pos j)) (omega arith)))
  index_loaded IntWidth.I1 r b o j p eight sixteen leads holds is = absurd is
  index_loaded IntWidth.I32 r b o j p eight sixteen leads holds is = absurd is
  index_loaded IntWidth.I64 r b o j p eight sixteen leads holds is = absurd is
