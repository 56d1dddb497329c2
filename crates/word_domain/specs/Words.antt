-- Words of so many bits.
use Rattle.std.specs.Prelude.{◌≡◌, ℕ, ◌*◌, ◌^◌, ◌<◌, ◌&&◌, Bool, nat_le}
use Rattle.word_domain.specs.declared.width.TheConstants.{WIDEST}

-- so many bits are the width of some words
abbrev pub is_width : ℕ → Bool
is_width n = nat_le 1 n && nat_le n WIDEST

-- q is a word of w bits, and the product with a is z
pub record IsQuotient (w z a q : ℕ) : Type 0 where
  pub product : q * a ≡ z
  pub fits : q < 2 ^ w
