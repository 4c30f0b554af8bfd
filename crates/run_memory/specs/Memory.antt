-- What the operations of the memory do. A memory is the list of its blocks.
use Rattle.std.specs.Prelude.{ℕ, zero, suc, Bool, true, false, not, List, [], length, take, drop, replicate, is_some, nat_lt, nat_le, slice_get, Some, None, Ok, Err, Option, Result, ◌+◌, ◌*◌, ◌/◌, ◌%◌, ◌&&◌, ◌||◌, ◌∷◌, ◌++◌, if◌then◌else◌, ◌==◌}
use Rattle.run_memory.specs.declared.pointer.Access.{Access}
use Rattle.run_memory.specs.declared.pointer.Spot.{Spot}
use Rattle.run_memory.specs.declared.block.Byte.{Byte}
use Rattle.run_memory.specs.declared.block.Kind.{Kind}
use Rattle.run_memory.specs.declared.block.Life.{Life}
use Rattle.run_memory.specs.declared.block.MemoryBlock.{MemoryBlock}
use Rattle.run_memory.specs.declared.pointer.Pointer.{Pointer}
use Rattle.run_memory.specs.declared.pointer.Value.{Value}
use Rattle.run_memory.specs.declared.pointer.Offset.{Offset}
use Rattle.run_memory.specs.Pointers.{same_pointer}
use Rattle.run_ints.specs.ir_base.declared.cause.Cause.{Cause}

abbrev pub is_live : Life → Bool
is_live Life.Live = true
is_live Life.Ended = false
is_live Life.Killed = false

abbrev pub is_killed : Life → Bool
is_killed Life.Live = false
is_killed Life.Ended = false
is_killed Life.Killed = true

abbrev pub same_kind : Kind → Kind → Bool
same_kind Kind.Allocator Kind.Allocator = true
same_kind Kind.Stack Kind.Stack = true
same_kind Kind.Slot Kind.Slot = true
same_kind Kind.Global Kind.Global = true
same_kind Kind.Constant Kind.Constant = true
same_kind _ _ = false

-- ---- accesses

-- what an access may do with a block: whether a part of the range from an offset on, of a length, may not be touched; whether an alignment is met at an offset; and whether a pointer to an offset may be compared
pub record Rights : Type 0 where
  pub is_closed : ℕ → MemoryBlock → (offset len : ℕ) → Bool
  pub is_aligned : ℕ → MemoryBlock → (offset align : ℕ) → Bool
  pub is_comparable : ℕ → MemoryBlock → (offset : ℕ) → Bool

abbrev pub is_below : ℕ → Option ℕ → Bool
is_below offset None = false
is_below offset (Some n) = nat_lt offset n

-- an alignment is met where it divides the offset and is at most the block's
abbrev pub meets : MemoryBlock → ℕ → ℕ → Bool
meets x offset align = (offset % align == 0) && nat_le align x.align

-- while a block is owned to n, bytes 0 to n-1 may not be touched, and pointers to 1 to n-1 may not be compared
abbrev pub owner_rights : Rights
owner_rights = record {
  is_closed = λ b x offset len. is_below offset x.owned;
  is_aligned = λ b x offset align. meets x offset align;
  is_comparable = λ b x offset. (offset == 0) || not (is_below offset x.owned);
}

abbrev pub check : Bool → Cause → {A : Type 0} → Result A Cause → Result A Cause
check true c r = r
check false c r = Err c

-- the range of a block from an offset on, or the first cause against an access to it
abbrev pub range_at : Rights → ℕ → Option MemoryBlock → ℕ → ℕ → ℕ → Result Spot Cause
range_at rights b None offset len align = Err Cause.Bounds
range_at rights b (Some x) o len align =
    if nat_lt x.size (o + len) then Err Cause.Bounds
    else if not (is_live x.life) then Err Cause.Dead
    else if rights.is_closed b x o len then Err Cause.Owned
    else if rights.is_aligned b x o align then Ok (record { block = b; offset = o })
    else Err Cause.Align

abbrev pub range : Rights → List MemoryBlock → Value → ℕ → ℕ → Result Spot Cause
range rights m Value.Poison len align = Err Cause.Poison
range rights m (Value.Int w) len align = Err Cause.Bounds
range rights m (Value.Ptr Pointer.Null) len align = Err Cause.Bounds
range rights m (Value.Ptr (Pointer.Func f)) len align = Err Cause.Bounds
range rights m (Value.Ptr (Pointer.At b offset)) len align = range_at rights b (slice_get m b) offset.bits len align

-- ---- bytes

abbrev pub bytes_in : Option MemoryBlock → List Byte
bytes_in None = []
bytes_in (Some x) = x.bytes

abbrev pub bytes_at : List MemoryBlock → Spot → ℕ → List Byte
bytes_at m spot len = take len (drop spot.offset (bytes_in (slice_get m spot.block)))

-- the bytes of a list from an offset on replaced
abbrev pub written : List Byte → ℕ → List Byte → List Byte
written bytes offset new = take offset bytes ++ new ++ drop (offset + length new) bytes

abbrev pub with_block : List MemoryBlock → ℕ → (MemoryBlock → MemoryBlock) → List MemoryBlock
with_block [] b f = []
with_block (x ∷ m) zero f = f x ∷ m
with_block (x ∷ m) (suc b) f = x ∷ with_block m b f

abbrev pub with_bytes : ℕ → List Byte → MemoryBlock → MemoryBlock
with_bytes offset new x = record x { bytes = written x.bytes offset new }

abbrev pub write : List MemoryBlock → Spot → List Byte → List MemoryBlock
write m spot new = with_block m spot.block (with_bytes spot.offset new)

abbrev pub width_bytes : ℕ → ℕ
width_bytes w = (w + 7) / 8

abbrev pub access_bytes : Access → ℕ
access_bytes (Access.Int w) = width_bytes w
access_bytes Access.Ptr = 8

-- a number's bytes, the least one first
abbrev pub digits : ℕ → ℕ → List Byte
digits zero n = []
digits (suc k) n = Byte.Number (n % 256) ∷ digits k (n / 256)

-- n parts of a pointer from the part k on
abbrev pub parts : Pointer → ℕ → ℕ → List Byte
parts p k zero = []
parts p k (suc n) = Byte.Part p k ∷ parts p (suc k) n

-- what is stored for a value
abbrev pub encode : ℕ → Value → List Byte
encode n Value.Poison = replicate n Byte.Undefined
encode n (Value.Int w) = digits n w.bits
encode n (Value.Ptr p) = parts p 0 n

abbrev pub onto : ℕ → Option ℕ → Option ℕ
onto k None = None
onto k (Some n) = Some (k + 256 * n)

-- the number that bytes stand for, where each of them is one
abbrev pub number_of : List Byte → Option ℕ
number_of [] = Some 0
number_of (Byte.Undefined ∷ bytes) = None
number_of (Byte.Part p k ∷ bytes) = None
number_of (Byte.Number k ∷ bytes) = onto k (number_of bytes)

-- the bytes are the parts of a pointer from the part k on, in order
abbrev pub are_parts : Pointer → ℕ → List Byte → Bool
are_parts p k [] = true
are_parts p k (Byte.Undefined ∷ bytes) = false
are_parts p k (Byte.Number n ∷ bytes) = false
are_parts p k (Byte.Part q j ∷ bytes) = same_pointer p q && (j == k) && are_parts p (suc k) bytes

-- a number that a load of an integer finds, which for an i1 is 0 or 1
abbrev pub integer_from : ℕ → Option ℕ → Value
integer_from w None = Value.Poison
integer_from w (Some n) = if (w == 1) && nat_lt 1 n then Value.Poison else Value.Int (record { width = w; bits = n })

abbrev pub pointer_from : List Byte → Value
pointer_from [] = Value.Poison
pointer_from (Byte.Undefined ∷ bytes) = Value.Poison
pointer_from (Byte.Number n ∷ bytes) = Value.Poison
pointer_from (Byte.Part p k ∷ bytes) = if are_parts p 0 (Byte.Part p k ∷ bytes) then Value.Ptr p else Value.Poison

-- the value that bytes stand for
abbrev pub decode : Access → List Byte → Value
decode (Access.Int w) bytes = integer_from w (number_of bytes)
decode Access.Ptr bytes = pointer_from bytes

-- ---- the operations

-- a new live block of undefined bytes; its number is the length of the memory before
abbrev pub fresh : List MemoryBlock → ℕ → ℕ → Kind → List MemoryBlock
fresh m size align kind =
    m ++ record { size = size; align = align; kind = kind; life = Life.Live; owned = None; bytes = replicate size Byte.Undefined } ∷ []

abbrev pub on_ok : {A B : Type 0} → (A → Result B Cause) → Result A Cause → Result B Cause
on_ok f (Err c) = Err c
on_ok f (Ok a) = f a

abbrev pub load : Rights → List MemoryBlock → Value → Access → ℕ → Result Value Cause
load rights m p what align =
    on_ok (λ spot. Ok (decode what (bytes_at m spot (access_bytes what)))) (range rights m p (access_bytes what) align)

abbrev pub is_constant : Option MemoryBlock → Bool
is_constant None = false
is_constant (Some x) = same_kind x.kind Kind.Constant

abbrev pub unless_constant : List MemoryBlock → Spot → List MemoryBlock → Result (List MemoryBlock) Cause
unless_constant m spot m' = if is_constant (slice_get m spot.block) then Err Cause.Constant else Ok m'

abbrev pub store : Rights → List MemoryBlock → Value → Value → Access → ℕ → Result (List MemoryBlock) Cause
store rights m p v what align =
    on_ok (λ spot. unless_constant m spot (write m spot (encode (access_bytes what) v))) (range rights m p (access_bytes what) align)

-- the place of a cause in the order in which an access looks for them
abbrev pub rank : Cause → ℕ
rank Cause.Poison = 0
rank Cause.Bounds = 1
rank Cause.Dead = 2
rank Cause.Owned = 3
rank _ = 4

-- both ranges of a copy, or the first cause against either
abbrev pub both : Result Spot Cause → Result Spot Cause → Result (Spot × Spot) Cause
both (Err c) (Err d) = if nat_le (rank c) (rank d) then Err c else Err d
both (Err c) (Ok b) = Err c
both (Ok a) (Err d) = Err d
both (Ok a) (Ok b) = Ok (a, b)

-- two ranges of a length have a byte in common and aren't equal
abbrev pub overlaps : Spot → Spot → ℕ → Bool
overlaps a b len = (a.block == b.block) && not (a.offset == b.offset) && nat_lt a.offset (b.offset + len) && nat_lt b.offset (a.offset + len)

abbrev pub copied : List MemoryBlock → Spot → Spot → ℕ → Result (List MemoryBlock) Cause
copied m to from len =
    if is_constant (slice_get m to.block) then Err Cause.Constant
    else if overlaps to from len then Err Cause.Overlap
    else Ok (write m to (bytes_at m from len))

-- a copy, which does nothing at 0 bytes
abbrev pub copy : Rights → List MemoryBlock → Value → Value → ℕ → Result (List MemoryBlock) Cause
copy rights m to from zero = Ok m
copy rights m to from (suc n) =
    on_ok (λ (a, b). copied m a b (suc n)) (both (range rights m to (suc n) 1) (range rights m from (suc n) 1))

-- an offset from 0 to the size
abbrev pub is_within : MemoryBlock → Offset → Bool
is_within x o = nat_le o.bits x.size

-- an offset from 0 to the size less 1
abbrev pub is_inside : MemoryBlock → Offset → Bool
is_inside x o = nat_lt o.bits x.size

abbrev pub may_compare : Rights → ℕ → MemoryBlock → Offset → Bool
may_compare rights b x o = not (is_live x.life) || rights.is_comparable b x o.bits

abbrev pub may_compare_at : Rights → ℕ → Option MemoryBlock → Offset → Bool
may_compare_at rights b None o = true
may_compare_at rights b (Some x) o = may_compare rights b x o

-- two pointers into blocks: into one live block at offsets to its size, or into two live ones at offsets below their sizes
abbrev pub is_compared : Rights → ℕ → Offset → ℕ → Offset → Option MemoryBlock → Option MemoryBlock → Bool
is_compared rights b o c p None y = false
is_compared rights b o c p (Some x) None = false
is_compared rights b o c p (Some x) (Some y) =
    is_live x.life && is_live y.life && may_compare rights b x o && may_compare rights c y p
    && (if b == c then is_within x o && is_within y p else is_inside x o && is_inside y p)

abbrev pub compare : Rights → List MemoryBlock → Value → Value → Result Bool Cause
compare rights m (Value.Ptr Pointer.Null) (Value.Ptr Pointer.Null) = Ok true
compare rights m (Value.Ptr Pointer.Null) (Value.Ptr (Pointer.Func g)) = Ok false
compare rights m (Value.Ptr (Pointer.Func f)) (Value.Ptr Pointer.Null) = Ok false
compare rights m (Value.Ptr Pointer.Null) (Value.Ptr (Pointer.At c p)) = check (may_compare_at rights c (slice_get m c) p) Cause.Compare (Ok false)
compare rights m (Value.Ptr (Pointer.At b o)) (Value.Ptr Pointer.Null) = check (may_compare_at rights b (slice_get m b) o) Cause.Compare (Ok false)
compare rights m (Value.Ptr (Pointer.At b o)) (Value.Ptr (Pointer.At c p)) =
    check (is_compared rights b o c p (slice_get m b) (slice_get m c)) Cause.Compare
    (Ok (same_pointer (Pointer.At b o) (Pointer.At c p)))
compare rights m _ _ = Err Cause.Compare

-- a block that was never killed, of a kind
abbrev pub is_unkilled : Kind → Option MemoryBlock → Bool
is_unkilled kind None = false
is_unkilled kind (Some x) = same_kind x.kind kind && not (is_killed x.life)

abbrev pub is_owned : Option MemoryBlock → Bool
is_owned None = false
is_owned (Some x) = is_some x.owned

abbrev pub with_life : List MemoryBlock → ℕ → Life → List MemoryBlock
with_life m b life = with_block m b (λ x. record x { life = life })

abbrev pub killed_block : MemoryBlock → MemoryBlock
killed_block x = record x { life = Life.Killed; owned = None; bytes = [] }

-- a block killed, by its number
abbrev pub killed : List MemoryBlock → ℕ → List MemoryBlock
killed m b = with_block m b killed_block

abbrev pub kill : List MemoryBlock → Value → Kind → Result (List MemoryBlock) Cause
kill m (Value.Ptr (Pointer.At b o)) kind =
    if not ((o.bits == 0) && is_unkilled kind (slice_get m b)) then Err Cause.Free
    else if is_owned (slice_get m b) then Err Cause.Owned
    else Ok (killed m b)
kill m _ kind = Err Cause.Free

abbrev pub started : MemoryBlock → MemoryBlock
started x = if is_killed x.life then x else record x { life = Life.Live; bytes = replicate x.size Byte.Undefined }

abbrev pub start : List MemoryBlock → ℕ → List MemoryBlock
start m b = with_block m b started

abbrev pub ended : MemoryBlock → MemoryBlock
ended x = if is_killed x.life then x else record x { life = Life.Ended }

abbrev pub end : List MemoryBlock → ℕ → List MemoryBlock
end m b = with_block m b ended

-- an unowned live block of a kind with at least n bytes
abbrev pub may_be_owned : Kind → ℕ → Option MemoryBlock → Bool
may_be_owned kind n None = false
may_be_owned kind n (Some x) = is_live x.life && same_kind x.kind kind && not (is_some x.owned) && nat_le n x.size

abbrev pub owned_to : ℕ → MemoryBlock → MemoryBlock
owned_to n x = record x { owned = Some n }

abbrev pub own : List MemoryBlock → Value → ℕ → Kind → Result (List MemoryBlock) Cause
own m (Value.Ptr (Pointer.At b o)) n kind =
    check ((o.bits == 0) && may_be_owned kind n (slice_get m b)) Cause.Begin (Ok (with_block m b (owned_to n)))
own m _ n kind = Err Cause.Begin

abbrev pub disowned : MemoryBlock → MemoryBlock
disowned x = record x { owned = None }

abbrev pub disown : List MemoryBlock → ℕ → List MemoryBlock
disown m b = with_block m b disowned

-- a global becomes a constant
abbrev pub sealed : MemoryBlock → MemoryBlock
sealed x = if same_kind x.kind Kind.Global then record x { kind = Kind.Constant } else x

abbrev pub seal : List MemoryBlock → ℕ → List MemoryBlock
seal m b = with_block m b sealed
