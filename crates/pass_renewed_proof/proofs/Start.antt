-- At the start each global stands at its own number, and no slot has been made.
use Rattle.std.proofs.Common.{◌≡◌, ℕ, zero, suc, ◌+◌, ◌^◌, ◌<◌, ◌≤◌, inl, true, false, List, [], ◌∷◌, length}
use Rattle.std.proofs.Common.{map, replicate, get_or, Option, Some, None, refl, sym, ap, ◌∙◌, subst, ⊎_elim, arith}
use Rattle.std.proofs.Common.{nat_le, ◌==◌}
use Rattle.std.proofs.lemmas.Bool.{cases_lt, false≢true}
use Rattle.std.specs.Prelude.{All, slice_get, ℤ, ◌/◌}
use Rattle.pass_kept_proof.specs.ir_base.declared.outcome.Word.{Word}
use Rattle.pass_kept_proof.specs.ir_model.Names.{declaration_named, function_at, function_named, global_named, same_name}
use Rattle.pass_kept_proof.specs.ir_model.Ty.{Ty, array, int, named, ptr, structure, token}
use Rattle.pass_kept_proof.specs.ir_model.declared.module.GlobalItem.{GlobalItem}
use Rattle.pass_kept_proof.specs.ir_model.declared.module.Module.{Module}
use Rattle.pass_kept_proof.specs.ir_model.declared.module.Param.{Param}
use Rattle.pass_kept_proof.specs.ir_model.declared.operand.Operand.{Operand}
use Rattle.ir_tables.proofs.Tables.{first_where-within}
use Rattle.pass_kept_proof.proofs.Same.{neither}
use Rattle.pass_kept_proof.specs.Kept.{Keep}
use Rattle.std.specs.List.{Contains, list_any}
use Rattle.std.proofs.lemmas.List.{length-map}
use Rattle.pass_kept_proof.specs.run_ints.declared.num.Num.{Num}
use Rattle.run_laws.proofs.memory.Itself.{stands_in_itself}
use Rattle.run_laws.proofs.memory.Written.{same_some}
use Rattle.run_laws.specs.changed.Changed.{Each}
use Rattle.run_laws.specs.embedded.Making.{whole_home}
use Rattle.run_laws.specs.memory.Pointers.{Home, IsValue, home_of}
use Rattle.run_laws.specs.memory.Standing.{AreOffsets, Embeds, HasBounds, byte_of, own_homes}
use Rattle.pass_kept_proof.proofs.run_memory.Digits.{length-encode}
use Rattle.pass_kept_proof.specs.run_memory.Memory.{access_bytes, digits, encode, may_compare_at, owner_rights, parts}
use Rattle.pass_kept_proof.specs.run_memory.Pointers.{moved}
use Rattle.pass_kept_proof.specs.run_memory.Whole.{AreWhole, IsWhole}
use Rattle.pass_kept_proof.specs.run_memory.declared.block.Byte.{Byte}
use Rattle.pass_kept_proof.specs.run_memory.declared.block.MemoryBlock.{MemoryBlock}
use Rattle.pass_kept_proof.specs.run_memory.declared.pointer.Access.{Access}
use Rattle.pass_kept_proof.specs.run_memory.declared.pointer.Offset.{Offset}
use Rattle.pass_kept_proof.specs.run_memory.declared.pointer.Pointer.{Pointer}
use Rattle.pass_kept_proof.specs.run_memory.declared.pointer.Value.{Value}
use Rattle.pass_kept_proof.specs.run_source.Source.{called, first_state}
use Rattle.pass_kept_proof.specs.run_source.declared.state.Mode.{Mode}
use Rattle.pass_kept_proof.specs.run_step.Step.{block_of, entry_values, first_world, global_block, with_params}
use Rattle.pass_kept_proof.specs.run_step.Values.{Env, access_of, address, address_from, literal, number_of_width, operand_value}
use Rattle.pass_kept_proof.specs.run_step.Values.{pointer_to, stored, value_in, value_of, with_value}
use Rattle.pass_kept_proof.specs.run_step.declared.world.Slot.{Slot}
use Rattle.pass_renewed_proof.proofs.Made.{get_none, get_within}
use Rattle.pass_renewed_proof.proofs.Places.{unowned_compares}
use Rattle.pass_renewed_proof.proofs.Sets.{set_elsewhere}
use Rattle.pass_renewed_proof.proofs.Shown.{encode_shown}
use Rattle.pass_renewed_proof.specs.Beside.{IsActivationBeside, IsBeside, NoSlots}
use Rattle.pass_renewed_proof.specs.Ledger.{AreEntered, AreSmallGlobals, IsAbout, Ledger, Lives, Seen, first_ledger}
use Rattle.pass_renewed_proof.specs.Muted.{IsShown, muted}
use Rattle.pass_renewed_proof.specs.Renewed.{Flags, Roots}
use Rattle.pass_renewed_proof.specs.Shown.{AreShownBlocks, AreShownBytes, IsShownByte}
use Rattle.pass_renewed_proof.specs.Steps.{AreOver}
use Rattle.pass_renewed_proof.specs.SlotRules.{KeepsAllSlots}

-- ---- lists

each_map : {A B : Type 0} (f : A → B) (P : B → Type 0) (xs : List A) → Each (λ x. P (f x)) xs → Each P (map f xs)
each_map f P [] h = tt
each_map f P (x ∷ xs) h = (h.0, each_map f P xs h.1)

all_map : {A B : Type 0} (f : A → B) (P : B → Type 0) (xs : List A) → ((x : A) → P (f x)) → All P (map f xs)
all_map f P [] h k d lt = absurd (omega arith)
all_map f P (x ∷ xs) h zero d lt = h x
all_map f P (x ∷ xs) h (suc k) d lt = all_map f P xs h k d (omega arith)

each_all : {A : Type 0} (P : A → Type 0) (xs : List A) → ((x : A) → P x) → Each P xs
each_all P [] h = tt
each_all P (x ∷ xs) h = (h x, each_all P xs h)

all_shown : (m : List MemoryBlock) → AreShownBlocks (λ b. false) m
all_shown m = each_all _ m (λ x. each_all _ x.bytes any_byte)
  where
    any_byte : (c : Byte) → IsShownByte (λ b. false) c
    any_byte Byte.Undefined = tt
    any_byte (Byte.Number k) = tt
    any_byte (Byte.Part Pointer.Null k) = tt
    any_byte (Byte.Part (Pointer.Func f) k) = tt
    any_byte (Byte.Part (Pointer.At b o) k) = refl

-- each element of the list that a map gives
each_got : {A B : Type 0} (f : A → B) (P : B → Type 0) (xs : List A) (k : ℕ) (y : B) → Each (λ x. P (f x)) xs
    → slice_get (map f xs) k ≡ Some y → P y
each_got f P [] k y h e = absurd (cc)
each_got f P (x ∷ xs) zero y h e = subst P (same_some (f x) y e) h.0
each_got f P (x ∷ xs) (suc k) y h e = each_got f P xs k y h.1 e

each_byte : (P : Byte → Type 0) → P Byte.Undefined → (bytes : List Byte) (i : ℕ) → Each P bytes
    → P (get_or bytes i Byte.Undefined)
each_byte P u [] i h = u
each_byte P u (x ∷ bytes) zero h = h.0
each_byte P u (x ∷ bytes) (suc i) h = each_byte P u bytes i h.1

-- ---- contents of globals

-- a pointer into a block that there is, at an offset of 64 bits
abbrev IsOffset : ℕ → Value → Type 0
IsOffset n (Value.Ptr (Pointer.At b o)) = (b < n) × (o.bits < 2 ^ 64)
IsOffset n _ = Unit {0}

number_offset : (n : ℕ) (x : Num) → IsOffset n (value_of x)
number_offset n Num.Poison = tt
number_offset n (Num.Is w) = tt

address_offset : (n : ℕ) (v : Value) → IsOffset n v → IsOffset n (address v)
address_offset n Value.Poison h = tt
address_offset n (Value.Int w) h = tt
address_offset n (Value.Ptr p) h = h

stored_offset : (n : ℕ) (what : Access) (v : Value) → IsOffset n v → IsOffset n (stored what v)
stored_offset n (Access.Int w) v h = number_offset n (number_of_width w v)
stored_offset n Access.Ptr v h = address_offset n v h

literal_offset : (n : ℕ) (ty : Ty) (z : ℤ) → IsOffset n (literal ty z)
literal_offset n (int w) z = tt
literal_offset n ptr z = tt
literal_offset n token z = tt
literal_offset n (array k ty) z = tt
literal_offset n (structure tys) z = tt
literal_offset n (named name) z = tt

module _ (m : Module) where
  abbrev n : ℕ
  n = length m.globals

  from_offset : (f g d : Option ℕ) → ((k : ℕ) → g ≡ Some k → k < n) → IsOffset n (address_from m f g d)
  from_offset (Some f) g d h = tt
  from_offset None (Some g) d h = (h g refl, omega arith)
  from_offset None None (Some d) h = tt
  from_offset None None None h = tt

  operand_offset : (ty : Ty) (x : Operand) → IsOffset n (operand_value m [] ty x)
  operand_offset ty (Operand.Local v) = tt
  operand_offset ty (Operand.Global name) = from_offset (function_named m name) (global_named m name)
      (declaration_named m name) (λ k e. first_where-within (λ g. same_name g.name name) m.globals k (sym e))
  operand_offset ty (Operand.Number z) = literal_offset n ty z
  operand_offset ty Operand.True = tt
  operand_offset ty Operand.False = tt
  operand_offset ty Operand.Null = tt
  operand_offset ty Operand.None = tt
  operand_offset ty Operand.Poison = tt

  abbrev contents : GlobalItem → Value
  contents g = stored (access_of g.ty) (operand_value m [] g.ty g.init)

  contents_offset : (g : GlobalItem) → IsOffset n (stored (access_of g.ty) (operand_value m [] g.ty g.init))
  contents_offset g = stored_offset n (access_of g.ty) _ (operand_offset g.ty g.init)

-- ---- their bytes

undefined_offsets : (n k : ℕ) → Each (AreOffsets n) (replicate k Byte.Undefined)
undefined_offsets n zero = tt
undefined_offsets n (suc k) = (tt, undefined_offsets n k)

digits_offsets : (n k z : ℕ) → Each (AreOffsets n) (digits k z)
digits_offsets n zero z = tt
digits_offsets n (suc k) z = (tt, digits_offsets n k (z / 256))

parts_offsets : (n : ℕ) (p : Pointer) (j k : ℕ) → IsOffset n (Value.Ptr p) → Each (AreOffsets n) (parts p j k)
parts_offsets n p j zero h = tt
parts_offsets n Pointer.Null j (suc k) h = (tt, parts_offsets n Pointer.Null (suc j) k h)
parts_offsets n (Pointer.Func f) j (suc k) h = (tt, parts_offsets n (Pointer.Func f) (suc j) k h)
parts_offsets n (Pointer.At b o) j (suc k) h = (h, parts_offsets n (Pointer.At b o) (suc j) k h)

encode_offsets : (n k : ℕ) (v : Value) → IsOffset n v → Each (AreOffsets n) (encode k v)
encode_offsets n k Value.Poison h = undefined_offsets n k
encode_offsets n k (Value.Int w) h = digits_offsets n k w.bits
encode_offsets n k (Value.Ptr p) h = parts_offsets n p 0 k h

-- no pointer into a block that isn't there
no_future : (n : ℕ) (v : Value) → IsOffset n v → IsShown (λ b. nat_le n b) v
no_future n Value.Poison h = tt
no_future n (Value.Int w) h = tt
no_future n (Value.Ptr Pointer.Null) h = tt
no_future n (Value.Ptr (Pointer.Func f)) h = tt
no_future n (Value.Ptr (Pointer.At b o)) h = later n b h.0
  where
    later : (n b : ℕ) → b < n → nat_le n b ≡ false
    later n b lt = grind arith

-- ---- nothing is hidden

muted_none : (m : List MemoryBlock) → muted (λ b. false) m ≡ m
muted_none [] = refl
muted_none (x ∷ m) = ap (λ k. x ∷ k) (muted_none m)

own_at : (k n b : ℕ) → b < n → home_of (own_homes k n) b ≡ whole_home (k + b)
own_at k zero b lt = absurd (omega arith)
own_at k (suc n) zero lt = let e : k ≡ k + 0 = omega arith in ap whole_home e
own_at k (suc n) (suc b) lt = let e : suc k + b ≡ k + suc b = omega arith in own_at (suc k) n b (omega arith)
    ∙ ap whole_home e

own_past : (k n b : ℕ) → n ≤ b → (home_of (own_homes k n) b).is_seen ≡ false
own_past k zero b le = refl
own_past k (suc n) zero le = absurd (omega arith)
own_past k (suc n) (suc b) le = own_past (suc k) n b (omega arith)

own_here : (n b : ℕ) → b < n → home_of (own_homes 0 n) b ≡ whole_home b
own_here n b lt = let e : 0 + b ≡ b = omega arith in own_at 0 n b lt ∙ ap whole_home e

own_length : (k n : ℕ) → length (own_homes k n) ≡ n
own_length k zero = refl
own_length k (suc n) = ap suc (own_length (suc k) n)

seen_within : (n b : ℕ) → (home_of (own_homes 0 n) b).is_seen ≡ true → b < n
seen_within n b e = ⊎_elim (λ lt. lt) (λ le. absurd (false≢true (sym (own_past 0 n b le) ∙ e))) (cases_lt b n)

-- ---- the memory of globals

module _ (m : Module) (small : AreSmallGlobals m) where
  abbrev memory : List MemoryBlock
  memory = (first_world m).memory

  abbrev homes : List Home
  homes = own_homes 0 (length (first_world m).memory)

  count : length (first_world m).memory ≡ length m.globals
  count = length-map m.globals (global_block m)

  whole : AreWhole (first_world m).memory
  whole = all_map (global_block m) IsWhole m.globals (λ g. record {
    full = length-encode (access_bytes (access_of
        g.ty)) (contents m g);
  })

  sizes : (b : ℕ) (x : MemoryBlock) → slice_get (first_world m).memory b ≡ Some x → x.size < 2 ^ 64
  sizes b x at = each_got (global_block m) (λ (y : MemoryBlock). y.size < 2 ^ 64) m.globals b x small at

  offsets : (b i : ℕ) (x : MemoryBlock) → slice_get (first_world m).memory b ≡ Some x
      → AreOffsets (length (first_world m).memory) (byte_of x i)
  offsets b i x at = subst (λ n. AreOffsets n (byte_of x i)) (sym count)
      (each_got (global_block m) (λ (y : MemoryBlock). AreOffsets (length m.globals) (byte_of y i)) m.globals b x
      (each_all _ m.globals (λ g. each_byte (AreOffsets (length m.globals)) tt _ i (encode_offsets (length m.globals)
      (access_bytes (access_of g.ty)) (contents m g) (contents_offset m g)))) at)

  unowned : (b : ℕ) (x : MemoryBlock) → slice_get (first_world m).memory b ≡ Some x → x.owned ≡ None
  unowned b x at = each_got (global_block m) (λ (y : MemoryBlock). y.owned ≡ None) m.globals b x (each_all _ m.globals
      (λ g. refl)) at

  future : AreShownBlocks (λ b. nat_le (length (first_world m).memory) b) (first_world m).memory
  future = subst (λ n. AreShownBlocks (λ b. nat_le n b) (first_world m).memory) (sym count)
      (each_map (global_block m) (λ (x : MemoryBlock). AreShownBytes (λ b. nat_le (length m.globals) b) x.bytes)
      m.globals
      (each_all _ m.globals (λ g. encode_shown (λ b. nat_le (length m.globals) b) (access_bytes (access_of g.ty))
      (contents m g) (no_future (length m.globals) (contents m g) (contents_offset m g)))))

  here : (b : ℕ) → b < length (first_world m).memory
      → home_of (own_homes 0 (length (first_world m).memory)) b ≡ whole_home b
  here b lt = own_here (length (first_world m).memory) b lt

  embeds : Embeds owner_rights owner_rights (own_homes 0 (length (first_world m).memory)) (muted (λ b. false)
      (first_world m).memory) (first_world m).memory
  embeds = subst (λ k. Embeds owner_rights owner_rights (own_homes 0 (length (first_world m).memory)) k (first_world
      m).memory) (sym (muted_none (first_world m).memory)) (stands_in_itself (first_world m).memory whole sizes
      offsets)

  compares : (b : ℕ) (o : Offset) → (home_of (own_homes 0 (length (first_world m).memory)) b).is_seen ≡ true
      → may_compare_at owner_rights (home_of (own_homes 0 (length (first_world m).memory)) b).block (slice_get
      (first_world m).memory (home_of (own_homes 0 (length (first_world m).memory)) b).block) o ≡ true
  compares b o seen =
      let lt = seen_within (length (first_world m).memory) b seen in
      subst (λ q. may_compare_at owner_rights q.block (slice_get (first_world m).memory q.block) o ≡ true) (sym (here
      b lt)) (on (slice_get (first_world m).memory b) refl lt)
    where
      on : (z : Option MemoryBlock) → slice_get (first_world m).memory b ≡ z → b < length (first_world m).memory
          → may_compare_at owner_rights b z o ≡ true
      on None e lt = absurd (get_none (first_world m).memory b e lt)
      on (Some x) e lt = unowned_compares b x o (unowned b x e)

  begins_over : AreOver (own_homes 0 (length (first_world m).memory)) (λ b. false) (first_world m) (first_world m)
  begins_over = record {
    memory = embeds;
    nulls = record { each = λ b o seen may. compares b (moved o (home_of homes b).offset) seen };
    bounds = record {
      each = λ b x seen at.
          let lt = seen_within (length (first_world m).memory) b seen in
          let is : slice_get (first_world m).memory b ≡ Some x = subst (λ k. slice_get k b ≡ Some x) (muted_none
          (first_world m).memory) at in
          subst (λ q. HasBounds (first_world m).memory q x.size) (sym (here b lt)) (record {
            block = x;
            there = is;
            fits = omega arith;
            small = sizes b x is;
          });
    };
    events = refl;
    answers = refl;
    allocs = refl;
  }

  begins_entered : AreEntered m (first_ledger m) (first_world m).memory (first_world m).memory
  begins_entered = record {
    known = own_length 0 (length (first_world m).memory);
    hidden = λ b e. absurd (false≢true e);
    present = λ b e. absurd (false≢true e);
    globals = λ b lt. here b (subst (λ n. b < n) (sym count) lt);
    alone = λ b about. ap Some (ap (λ (q : Home). q.block) (here b (about_within b about)));
    owned = λ c depth e. absurd (cc);
    seated = λ b seat e. absurd (cc);
    kinds = λ b seat x e. absurd (cc);
    shapes = λ b seat x e. absurd (cc);
    placed = λ b seat e. absurd (cc);
    unowned = λ c depth y e at. absurd (cc);
    mates = λ b x e at. record {
      block = b;
      home = here b (get_within (first_world m).memory b x at);
      shown = refl;
      bytes = x.bytes;
      there = at;
      owner = refl;
    };
    full = λ c x at live. each_got (global_block m) (λ (y : MemoryBlock). length y.bytes ≡ y.size) m.globals c x
        (each_all _ m.globals (λ g. length-encode (access_bytes (access_of g.ty)) (contents m g))) at;
    quiet = λ b e. absurd (false≢true e);
    shown = all_shown (first_world m).memory;
    future = future;
  }
    where
      about_within : (b : ℕ) → IsAbout (first_ledger m) (first_world m).memory b → b < length (first_world m).memory
      about_within b (Seen e) = seen_within (length (first_world m).memory) b e
      about_within b (Lives l) = get_within (first_world m).memory b l.block (subst (λ k. slice_get k b ≡ Some
          l.block) (muted_none (first_world m).memory) l.there)

-- ---- the values of the entry

abbrev IsWordOrPoison : Value → Type 0
IsWordOrPoison Value.Poison = Unit {0}
IsWordOrPoison (Value.Int w) = Unit {0}
IsWordOrPoison (Value.Ptr p) = ⊥

set_either : (env : Env) (name : ℕ) (v : Value) (at : ℕ) → IsWordOrPoison v → IsWordOrPoison (value_in env at)
    → IsWordOrPoison (value_in (with_value env name v) at)
set_either [] name v at h k = k
set_either (x ∷ env) zero v zero h k = h
set_either (x ∷ env) zero v (suc at) h k = k
set_either (x ∷ env) (suc name) v zero h k = k
set_either (x ∷ env) (suc name) v (suc at) h k = set_either env name v at h k

params_words : (env : Env) (params : List Param) (args : List Word) (at : ℕ) → IsWordOrPoison (value_in env at)
    → IsWordOrPoison (value_in (with_params env params (map Value.Int args)) at)
params_words env [] args at h = h
params_words env (p ∷ params) [] at h = h
params_words env (p ∷ params) (w ∷ args) at h = params_words (with_value env p.name (Value.Int w)) params args at
    (set_either env p.name (Value.Int w) at tt h)

pub params_others : (env : Env) (params : List Param) (vs : List Value) (at : ℕ)
    → list_any (λ (p : Param). p.name == at) params ≡ false → value_in (with_params env params vs) at ≡ value_in env at
params_others env [] vs at h = refl
params_others env (p ∷ params) [] at h = refl
params_others env (p ∷ params) (v ∷ vs) at h =
    let n = neither (p.name == at) _ h in
    params_others (with_value env p.name v) params vs at n.1 ∙ set_elsewhere env p.name at v (differs p.name at n.0)
  where
    differs : (a b : ℕ) → (a == b) ≡ false → a ≡ b → ⊥
    differs a b e is = absurd (grind arith)

pub blank_poison : (k at : ℕ) → value_in (replicate k None) at ≡ Value.Poison
blank_poison zero at = refl
blank_poison (suc k) zero = refl
blank_poison (suc k) (suc at) = blank_poison k at

word_stands : (hs : List Home) (v : Value) → IsWordOrPoison v → IsValue hs v v
word_stands hs Value.Poison h = tt
word_stands hs (Value.Int w) h = refl
word_stands hs (Value.Ptr p) h = absurd h

no_pointer : (v : Value) (b : ℕ) → IsWordOrPoison v → v ≡ pointer_to b → ⊥
no_pointer v b h e = subst IsWordOrPoison e h

no_block : (v : Value) (b : ℕ) → IsWordOrPoison v → block_of v ≡ Some b → ⊥
no_block Value.Poison b h e = absurd (cc)
no_block (Value.Int n) b h e = absurd (cc)
no_block (Value.Ptr p) b h e = h

module _ (m : Module) (keep : Keep) (flags : Flags) (roots : Roots) (keeps : KeepsAllSlots m keep flags roots) (entry
    : ℕ) (args : List Word) where
  words : (v : ℕ) → IsWordOrPoison (value_in (entry_values (function_at m entry) (map Value.Int args)) v)
  words v = params_words (replicate (length (function_at m entry).names) None) (function_at m entry).params args v
      (subst IsWordOrPoison (sym (blank_poison (length (function_at m entry).names) v)) tt)

  unrooted : (v a : ℕ) → roots entry v ≡ Some a
      → value_in (entry_values (function_at m entry) (map Value.Int args)) v ≡ Value.Poison
  unrooted v a e = params_others (replicate (length (function_at m entry).names) None) (function_at m entry).params
      (map Value.Int args) v ((keeps.each entry).no_param v a e) ∙ blank_poison (length (function_at m entry).names) v

  none_in : (slot : Slot) → Contains [] slot → ⊥
  none_in slot (k, lt, e) = absurd (omega arith)

  first_activation : (l : Ledger) (memory target : List MemoryBlock)
      → IsActivationBeside m flags roots l [] memory target 0 (called m entry (map Value.Int args) None Mode.Plain)
      (called m entry (map Value.Int args) None Mode.Plain)
  first_activation l memory target = record {
    values = entry_values (function_at m entry) (map Value.Int args);
    slots = [];
    is = refl;
    envs = record {
      plain = λ v e. word_stands l.homes _ (words v);
      rooted = λ v a e. inl (unrooted v a e);
      room = omega arith;
    };
    listed = NoSlots;
    others = λ v is. record { unseated = λ b at. absurd (no_block _ b (words v) at); nowhere = λ none. none };
    each = λ alloca b c flagged at there. absurd (no_pointer _ b (words alloca) at);
    made = λ slot is. absurd (none_in slot is);
    modes = inl refl;
    came = λ e. absurd (cc);
    begun = λ ne. absurd (ne refl);
    begins = λ e. absurd (cc);
    departs = λ e. absurd (false≢true e);
    left = λ e. absurd (false≢true e);
  }

  pub first_beside : AreSmallGlobals m → IsBeside m flags roots (first_state m entry (args)) (first_state m entry args)
  first_beside small = record {
    ledger = first_ledger m;
    outcome = refl;
    world = begins_over m small;
    entered = begins_entered m small;
    instances = tt;
    top = first_activation (first_ledger m) (first_world m).memory (first_world m).memory;
    below = tt;
  }
