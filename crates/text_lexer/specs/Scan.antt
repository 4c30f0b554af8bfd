-- How long what stands at the front of a text is.
use Rattle.std.specs.Prelude.{ℕ, ◌+◌, Bool, false, List, [], ◌∷◌, Option, Some, None, drop, if◌then◌else◌, ◌==◌, ◌&&◌, nat_lt}
use Rattle.std.specs.List.{prefix_len}
use Rattle.text_lexer.specs.Bytes.{is_digit, is_name_byte, is_word_start, is_mark, is_blank}
use Rattle.text_lexer.specs.declared.token.Kind.{Kind}
use Rattle.text_lexer.specs.declared.token.Kind.TheVariants.{Label, Word, Int, String, Local, Global, Group, Meta, Mark}

-- blanks and comments, a comment from `;` to the next line feed
abbrev mutual
  pub blank_len : List ℕ → ℕ
  blank_len [] = 0
  blank_len (b ∷ bs) = if is_blank b then 1 + blank_len bs else (if b == 59 then 1 + comment_len bs else 0)

  pub comment_len : List ℕ → ℕ
  comment_len [] = 0
  comment_len (b ∷ bs) = if b == 10 then 1 + blank_len bs else 1 + comment_len bs

-- how many bytes follow an opening quote, the closing one with them; 0 where none closes
abbrev pub close_len : List ℕ → ℕ
close_len [] = 0
close_len (b ∷ bs) = if b == 34 then 1 else (if close_len bs == 0 then 0 else 1 + close_len bs)

-- a plain or a quoted name; 0 where none begins
abbrev pub any_name_len : List ℕ → ℕ
any_name_len [] = 0
any_name_len (b ∷ bs) =
    if b == 34 then (if close_len bs == 0 then 0 else 1 + close_len bs) else prefix_len is_name_byte (b ∷ bs)

abbrev pub begins_colon : List ℕ → Bool
begins_colon [] = false
begins_colon (b ∷ bs) = b == 58

-- a token of the kind with n bytes more than one, where n isn't 0
abbrev pub behind : Kind → ℕ → Option (Kind × ℕ)
behind k n = if n == 0 then None else Some (k, 1 + n)

abbrev pub is_label : List ℕ → Bool
is_label bs = nat_lt 0 (any_name_len bs) && begins_colon (drop (any_name_len bs) bs)

abbrev pub plain_token_at : List ℕ → Option (Kind × ℕ)
plain_token_at [] = None
plain_token_at (b ∷ bs) =
    if is_word_start b then Some (Word, prefix_len is_name_byte (b ∷ bs))
    else (if is_digit b then Some (Int, prefix_len is_digit (b ∷ bs))
    else (if b == 45 then behind Int (prefix_len is_digit bs)
    else (if b == 34 then behind String (close_len bs)
    else (if b == 37 then behind Local (any_name_len bs)
    else (if b == 64 then behind Global (any_name_len bs)
    else (if b == 35 then behind Group (prefix_len is_digit bs)
    else (if b == 33 then Some (Meta, 1 + prefix_len is_name_byte bs)
    else (if is_mark b then Some (Mark, 1)
    else None))))))))

-- the kind and the length of the token at the front
abbrev pub token_at : List ℕ → Option (Kind × ℕ)
token_at bs = if is_label bs then Some (Label, any_name_len bs + 1) else plain_token_at bs
