-- The two sizes of limits.rs.
use Rattle.std.specs.Prelude.{◌≡◌, refl, ℕ, ◌*◌, ◌^◌}

-- document 01, refusal 1: "the text exceeds 67,108,864 bytes (`MAX_MESSAGE_SIZE`)"
abbrev pub max_message_size : ℕ
max_message_size = 67108864

-- limits.rs: `MAX_BYTES_LITERAL_LENGTH` is `MAX_MESSAGE_SIZE`
abbrev pub max_bytes_literal_length : ℕ
max_bytes_literal_length = max_message_size

-- limits.rs: `64 << 20`, the number of both
pub in_the_rust : (max_message_size ≡ 64 * 2 ^ 20) × (max_bytes_literal_length ≡ 64 * 2 ^ 20)
in_the_rust = (refl, refl)
