-- The lines of clang that the subset lacks. One line is one instruction.
use Rattle.std.specs.Prelude.{ℕ, ◌+◌, ◌*◌, ◌-◌, Bool, true, false, List, [], ◌∷◌, ◌++◌, ◌&&◌, ◌||◌, ◌==◌, not, nat_le, if◌then◌else◌, codes, length}
use Rattle.std.specs.List.{list_all}
use Rattle.text_lexer.specs.Bytes.{is_digit}
use Rattle.clang_tokens.specs.Words.{same, at, is_at, begins}
use Rattle.clang_reader.specs.declared.form.Form.{Form}

-- metadata or nothing
abbrev pub ends : ℕ → List (List ℕ) → Bool
ends i ts = is_at i ts [] || is_at i ts (codes ",")

-- `%b = bitcast ptr V to ptr`
abbrev pub is_bitcast : List (List ℕ) → Bool
is_bitcast ts =
    begins (codes "%") (at 0 ts) && (is_at 1 ts (codes "=") && (is_at 2 ts (codes "bitcast") && (is_at 3 ts (codes "ptr") && (is_at 5 ts (codes "to") && (is_at 6 ts (codes "ptr") && ends 7 ts)))))

-- from the position on stands `NAME(ptr A, ptr H, ptr W)`
abbrev pub is_await : List ℕ → ℕ → List (List ℕ) → Bool
is_await name i ts =
    is_at i ts name && (is_at (i + 1) ts (codes "(") && (is_at (i + 2) ts (codes "ptr") && (is_at (i + 4) ts (codes ",") && (is_at (i + 5) ts (codes "ptr") && (is_at (i + 7) ts (codes ",") && (is_at (i + 8) ts (codes "ptr") && is_at (i + 10) ts (codes ")")))))))

-- `call void`, from the position on
abbrev pub calls_void : List (List ℕ) → Bool
calls_void ts = is_at 0 ts (codes "call") && is_at 1 ts (codes "void")

-- `call void @llvm.coro.await.suspend.void(ptr A, ptr H, ptr W)`
abbrev pub is_void : List (List ℕ) → Bool
is_void ts = calls_void ts && is_await (codes "@llvm.coro.await.suspend.void") 2 ts

-- `%r = call i1 @llvm.coro.await.suspend.bool(ptr A, ptr H, ptr W)`
abbrev pub is_bool : List (List ℕ) → Bool
is_bool ts =
    is_at 1 ts (codes "=") && (is_at 2 ts (codes "call") && (is_at 3 ts (codes "i1") && is_await (codes "@llvm.coro.await.suspend.bool") 4 ts))

-- `call void @llvm.coro.await.suspend.handle(ptr A, ptr H, ptr W)`
abbrev pub is_handle : List (List ℕ) → Bool
is_handle ts = calls_void ts && is_await (codes "@llvm.coro.await.suspend.handle") 2 ts

-- where the pointer of a `memset` stands: behind its alignment, where one is written
abbrev pub memset_place : List (List ℕ) → ℕ
memset_place ts = if is_at 5 ts (codes "align") then 7 else 5

-- the value of decimal digits, as far as it is at most 999
abbrev pub value_of : ℕ → List ℕ → ℕ
value_of so_far [] = so_far
value_of so_far (d ∷ ds) = if nat_le so_far 999 then value_of (so_far * 10 + (d - 48)) ds else so_far

-- a number of at most 256 in digits
abbrev pub is_small : List ℕ → Bool
is_small t = not (length t == 0) && (list_all is_digit t && nat_le (value_of 0 t) 256)

-- from the position on stands `P, i8 B, i64 N, i1 false)`, N being small
abbrev pub sets_few : ℕ → List (List ℕ) → Bool
sets_few i ts =
    is_at (i + 1) ts (codes ",") && (is_at (i + 2) ts (codes "i8") && (is_at (i + 4) ts (codes ",") && (is_at (i + 5) ts (codes "i64") && (is_small (at (i + 6) ts) && (is_at (i + 7) ts (codes ",") && (is_at (i + 8) ts (codes "i1") && (is_at (i + 9) ts (codes "false") && is_at (i + 10) ts (codes ")"))))))))

-- `call void @llvm.memset.p0.i64(ptr P, i8 B, i64 N, i1 false)`
abbrev pub is_memset : List (List ℕ) → Bool
is_memset ts =
    calls_void ts && (is_at 2 ts (codes "@llvm.memset.p0.i64") && (is_at 3 ts (codes "(") && (is_at 4 ts (codes "ptr") && sets_few (memset_place ts) ts)))

-- `call void @llvm.assume(..`, and a call or declaration of `@llvm.dbg..`
abbrev pub is_idle : List (List ℕ) → Bool
is_idle ts =
    (calls_void ts && is_at 2 ts (codes "@llvm.assume")) || ((is_at 0 ts (codes "call") || is_at 0 ts (codes "declare")) && (is_at 1 ts (codes "void") && begins (codes "@llvm.dbg.") (at 2 ts)))

-- which of these a line is
abbrev pub form_of : List (List ℕ) → Form
form_of ts =
    if is_bitcast ts then Form.Bitcast
    else (if is_void ts then Form.Void
    else (if is_bool ts then Form.Bool
    else (if is_handle ts then Form.Handle
    else (if is_memset ts then Form.Memset
    else (if is_idle ts then Form.Idle
    else Form.Other)))))
