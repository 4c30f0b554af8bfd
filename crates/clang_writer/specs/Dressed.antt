-- A line of lowered text with what is kept of the original's.
use Rattle.std.specs.Prelude.{ℕ, Bool, true, false, List, [], ◌∷◌, ◌++◌, ◌&&◌, ◌||◌, not, ◌==◌, if◌then◌else◌, codes, drop, length, nat_lt, Option, Some, None, option_to_list}
use Rattle.std.specs.List.{list_all}
use Rattle.text_lexer.specs.Bytes.{is_digit}
use Rattle.clang_tokens.specs.Words.{same, at, is_at, begins}
use Rattle.clang_tokens.specs.Brackets.{depth_after}
use Rattle.clang_writer.specs.Kept.{is_signature, is_global, name_in}
use Rattle.clang_writer.specs.declared.kept.Kept.{Kept}

-- one digit or more
abbrev pub are_digits : List ℕ → Bool
are_digits bs = not (length bs == 0) && list_all is_digit bs

-- digits or none, then a colon at the end
abbrev pub tail_is_label : List ℕ → Bool
tail_is_label [] = false
tail_is_label (b ∷ bs) = if b == 58 then length bs == 0 else (is_digit b && tail_is_label bs)

-- a label that is a number
abbrev pub is_number_label : List ℕ → Bool
is_number_label [] = false
is_number_label (b ∷ bs) = is_digit b && tail_is_label bs

-- a local that is a number
abbrev pub is_number : List ℕ → Bool
is_number [] = false
is_number (b ∷ bs) = (b == 37) && are_digits bs

-- a text for a number, since LLVM wants numbers in order
abbrev pub renamed : List ℕ → List ℕ
renamed t =
    if is_number t then codes "%$c.n." ++ drop 1 t
    else (if is_number_label t then codes "$c.n." ++ t else t)

-- each token of a line
abbrev pub all_renamed : List (List ℕ) → List (List ℕ)
all_renamed [] = []
all_renamed (t ∷ ts) = renamed t ∷ all_renamed ts

-- behind a parameter, outside all brackets
abbrev pub is_end : List ℕ → Bool
is_end t = same t (codes ",") || same t (codes ")")

-- a parameter's attributes stand before its name, or behind its type where it has none
abbrev pub takes_here : Bool → List ℕ → List ℕ → Bool
takes_here named t next = if named then is_end next && not (is_end t) else is_end t

-- the attributes of the next parameter
abbrev pub first_param : List (List (List ℕ)) → List (List ℕ)
first_param [] = []
first_param (p ∷ ps) = p

-- the attributes before a token
abbrev pub put_before : Bool → ℕ → List (List (List ℕ)) → List ℕ → List ℕ → List (List ℕ)
put_before named depth params t next = if (depth == 0) && takes_here named t next then first_param params else []

-- the parameters, with the attributes that are kept of each, and what follows them
abbrev pub dressed_params : Bool → ℕ → List (List (List ℕ)) → List (List ℕ) → List (List ℕ)
dressed_params named depth params [] = []
dressed_params named depth params (t ∷ ts) =
    put_before named depth params t (at 0 ts)
    ++ (t ∷ (if (depth == 0) && same t (codes ")") then ts
    else dressed_params named (depth_after depth t) (if (depth == 0) && same t (codes ",") then drop 1 params else params) ts))

-- the tokens up to the name and the bracket behind it, and then the parameters
abbrev pub dressed_from : Bool → List (List (List ℕ)) → List (List ℕ) → List (List ℕ)
dressed_from named params [] = []
dressed_from named params (t ∷ []) = t ∷ []
dressed_from named params (t ∷ u ∷ ts) =
    if begins (codes "@") t then t ∷ u ∷ dressed_params named 0 params ts
    else t ∷ dressed_from named params (u ∷ ts)

-- a function's line with what is kept of the original's
abbrev pub signature_with : Kept → List (List ℕ) → List (List ℕ)
signature_with k ts = at 0 ts ∷ (k.front ++ dressed_from (is_at 0 ts (codes "define")) k.params (drop 1 ts))

-- a function's line: a definition that the original hasn't is a part, and internal
abbrev pub dressed_signature : Option Kept → List (List ℕ) → List (List ℕ)
dressed_signature None ts = if is_at 0 ts (codes "define") then codes "define" ∷ codes "internal" ∷ drop 1 ts else ts
dressed_signature (Some k) ts = signature_with k ts

-- a global's line
abbrev pub dressed_global : Option Kept → List (List ℕ) → List (List ℕ)
dressed_global None ts = ts
dressed_global (Some k) ts = at 0 ts ∷ codes "=" ∷ (k.front ++ drop 2 ts)

-- a line by what is kept of its name, where it is a function's or a global's
abbrev pub dressed : (List ℕ → Option Kept) → List (List ℕ) → List (List ℕ)
dressed kept ts =
    if is_signature ts then dressed_signature (kept (name_in ts)) ts
    else (if is_global ts then dressed_global (kept (at 0 ts)) ts
    else ts)
