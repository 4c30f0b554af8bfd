-- What globals hold stands in itself: numbers, and addresses of globals.
use Rattle.std.proofs.Common.{◌≡◌, ℕ, zero, suc, ◌<◌, ◌^◌, List, [], ◌∷◌, get_or, length, map, replicate, Option, None, Some, refl, sym, subst, arith}
use Rattle.std.proofs.lemmas.List.{length-map}
use Rattle.std.specs.Prelude.{ℤ, slice_get, ◌/◌}
use Rattle.compiler.specs.ir_model.Names.{declaration_named, function_named, global_named, same_name}
use Rattle.compiler.specs.ir_model.Ty.{Ty, array, int, named, ptr, structure, token}
use Rattle.compiler.specs.ir_model.declared.module.GlobalItem.{GlobalItem}
use Rattle.compiler.specs.ir_model.declared.module.Module.{Module}
use Rattle.compiler.specs.ir_model.declared.operand.Operand.{Operand}
use Rattle.compiler.proofs.ir_tables.Tables.{first_where-within}
use Rattle.compiler_theorem.specs.theorem.Lowered.{IsLowered, Lowered}
use Rattle.compiler.specs.pass_proofs.exits.states.Exits.{exits_split}
use Rattle.pass_frames_meaning.specs.pass_renewed_proof.Ledger.{AreSmallGlobals}
use Rattle.run_accepted.proofs.Steps.{small_globals}
use Rattle.compiler.proofs.text_canonical.order.Shaped.{text_is_shaped}
use Rattle.pass_split_proof.specs.states.Memories.{AreContents}
use Rattle.compiler.specs.run_ints.declared.num.Num.{Num}
use Rattle.compiler.specs.run_laws.changed.Changed.{Each}
use Rattle.compiler.specs.run_laws.memory.Standing.{AreOffsets, byte_of}
use Rattle.compiler.specs.run_memory.Memory.{access_bytes, digits, encode, parts}
use Rattle.compiler.specs.run_memory.declared.block.Byte.{Byte}
use Rattle.compiler.specs.run_memory.declared.block.MemoryBlock.{MemoryBlock}
use Rattle.compiler.specs.run_memory.declared.pointer.Access.{Access}
use Rattle.compiler.specs.run_memory.declared.pointer.Pointer.{Pointer}
use Rattle.compiler.specs.run_memory.declared.pointer.Value.{Value}
use Rattle.compiler.specs.run_step.Step.{global_block}
use Rattle.compiler.specs.run_step.Values.{access_of, address, address_from, literal, number_of_width, operand_value, stored, value_of}

-- ---- values

-- a pointer into a block that there is, at an offset of 64 bits
abbrev IsOffset : ℕ → Value → Type 0
IsOffset n (Value.Ptr (Pointer.At b o)) = (b < n) × (o.bits < 2 ^ 64)
IsOffset n _ = Unit {0}

number_offset : (n : ℕ) (x : Num) → IsOffset n (value_of x)
number_offset n Num.Poison = tt
number_offset n (Num.Is w) = tt

address_offset : (n : ℕ) (v : Value) → IsOffset n v → IsOffset n (address v)
address_offset n Value.Poison h = tt
address_offset n (Value.Int w) h = tt
address_offset n (Value.Ptr p) h = h

stored_offset : (n : ℕ) (what : Access) (v : Value) → IsOffset n v → IsOffset n (stored what v)
stored_offset n (Access.Int w) v h = number_offset n (number_of_width w v)
stored_offset n Access.Ptr v h = address_offset n v h

literal_offset : (n : ℕ) (ty : Ty) (z : ℤ) → IsOffset n (literal ty z)
literal_offset n (int w) z = tt
literal_offset n ptr z = tt
literal_offset n token z = tt
literal_offset n (array k ty) z = tt
literal_offset n (structure tys) z = tt
literal_offset n (named name) z = tt

module _ (m : Module) where
  abbrev n : ℕ
  n = length m.globals

  from_offset : (f g d : Option ℕ) → ((k : ℕ) → g ≡ Some k → k < n) → IsOffset n (address_from m f g d)
  from_offset (Some f) g d h = tt
  from_offset None (Some g) d h = (h g refl, omega arith)
  from_offset None None (Some d) h = tt
  from_offset None None None h = tt

  operand_offset : (ty : Ty) (x : Operand) → IsOffset n (operand_value m [] ty x)
  operand_offset ty (Operand.Local v) = tt
  operand_offset ty (Operand.Global name) = from_offset (function_named m name) (global_named m name)
      (declaration_named m name) (λ k e. first_where-within (λ g. same_name g.name name) m.globals k (sym e))
  operand_offset ty (Operand.Number z) = literal_offset n ty z
  operand_offset ty Operand.True = tt
  operand_offset ty Operand.False = tt
  operand_offset ty Operand.Null = tt
  operand_offset ty Operand.None = tt
  operand_offset ty Operand.Poison = tt

  abbrev contents : GlobalItem → Value
  contents g = stored (access_of g.ty) (operand_value m [] g.ty g.init)

  contents_offset : (g : GlobalItem) → IsOffset n (stored (access_of g.ty) (operand_value m [] g.ty g.init))
  contents_offset g = stored_offset n (access_of g.ty) _ (operand_offset g.ty g.init)

-- ---- their bytes

undefined_offsets : (n k : ℕ) → Each (AreOffsets n) (replicate k Byte.Undefined)
undefined_offsets n zero = tt
undefined_offsets n (suc k) = (tt, undefined_offsets n k)

digits_offsets : (n k z : ℕ) → Each (AreOffsets n) (digits k z)
digits_offsets n zero z = tt
digits_offsets n (suc k) z = (tt, digits_offsets n k (z / 256))

parts_offsets : (n : ℕ) (p : Pointer) (j k : ℕ) → IsOffset n (Value.Ptr p) → Each (AreOffsets n) (parts p j k)
parts_offsets n p j zero h = tt
parts_offsets n Pointer.Null j (suc k) h = (tt, parts_offsets n Pointer.Null (suc j) k h)
parts_offsets n (Pointer.Func f) j (suc k) h = (tt, parts_offsets n (Pointer.Func f) (suc j) k h)
parts_offsets n (Pointer.At b o) j (suc k) h = (h, parts_offsets n (Pointer.At b o) (suc j) k h)

encode_offsets : (n k : ℕ) (v : Value) → IsOffset n v → Each (AreOffsets n) (encode k v)
encode_offsets n k Value.Poison h = undefined_offsets n k
encode_offsets n k (Value.Int w) h = digits_offsets n k w.bits
encode_offsets n k (Value.Ptr p) h = parts_offsets n p 0 k h

-- ---- blocks

each_byte : (P : Byte → Type 0) → P Byte.Undefined → (bytes : List Byte) (i : ℕ) → Each P bytes
    → P (get_or bytes i Byte.Undefined)
each_byte P u [] i h = u
each_byte P u (x ∷ bytes) zero h = h.0
each_byte P u (x ∷ bytes) (suc i) h = each_byte P u bytes i h.1

block_got : (m : Module) (P : MemoryBlock → Type 0) (gs : List GlobalItem) → Each (λ (g : GlobalItem). P (global_block m g)) gs
    → (b : ℕ) (x : MemoryBlock) → slice_get (map (global_block m) gs) b ≡ Some x → P x
block_got m P [] h b x e = absurd (cc)
block_got m P (g ∷ gs) h zero x e = let same : global_block m g ≡ x = cc in subst P same h.0
block_got m P (g ∷ gs) h (suc b) x e = block_got m P gs h.1 b x e

each_all : {A : Type 0} (P : A → Type 0) (xs : List A) → ((x : A) → P x) → Each P xs
each_all P [] h = tt
each_all P (x ∷ xs) h = (h x, each_all P xs h)

pub contents_stand : (m : Module) → AreSmallGlobals m → AreContents m
contents_stand m low = record {
  small = λ b x e. block_got m (λ (y : MemoryBlock). y.size < 2 ^ 64) m.globals low b x e;
  known = λ b i x e. subst (λ (k : ℕ). AreOffsets k (byte_of x i)) (sym (length-map m.globals (global_block m)))
      (block_got m (λ (y : MemoryBlock). AreOffsets (length m.globals) (byte_of y i)) m.globals
      (each_all (λ (g : GlobalItem). AreOffsets (length m.globals) (byte_of (global_block m g) i)) m.globals
      (λ g. each_byte (AreOffsets (length m.globals)) tt (global_block m g).bytes i
      (encode_offsets (length m.globals) (access_bytes (access_of g.ty)) (contents m g) (contents_offset m g)))) b x e);
}

-- ---- of framed forms

pub framed_contents : (l : Lowered) → IsLowered l → AreContents (exits_split l.framed)
framed_contents l low = contents_stand (exits_split l.framed)
    (subst (Each (λ (g : GlobalItem). access_bytes (access_of g.ty) < 2 ^ 64)) (sym low.is_framed.globals)
    (small_globals l.source.globals (text_is_shaped l.text l.source low.source.stands).globals))
