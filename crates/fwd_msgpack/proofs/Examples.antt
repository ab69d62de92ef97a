-- The definitions at work on a few bytes.
use Rattle.std.proofs.Common.{◌≡◌, [], ◌∷◌, Some, None, refl}
use Rattle.fwd_msgpack.specs.declared.fault.ScanFault.TheVariants.{Reserved, TooDeep, TooLong}
use Rattle.fwd_msgpack.specs.Heads.{row_of, named_rows, reading_of}
use Rattle.fwd_msgpack.specs.Plain.{plain_len}
use Rattle.fwd_msgpack.specs.Scans.{Whole, Short, Bad, Open, first_of, fault_at, item_begun, payload_ended, split_of, row_of_values, elements_of, pairs_of, parts_of}

one : first_of 100 64 (0x93 ∷ 0xa1 ∷ 0x61 ∷ 0x01 ∷ 0x80 ∷ 0xff ∷ []) ≡ Whole 5
unfolding first_of fault_at item_begun payload_ended reading_of row_of named_rows
one = refl

short : first_of 100 64 (0x93 ∷ 0xa1 ∷ 0x61 ∷ 0x01 ∷ []) ≡ Short
unfolding first_of fault_at item_begun payload_ended reading_of row_of named_rows
short = refl

reserved : first_of 100 64 (0x93 ∷ 0xa1 ∷ 0x61 ∷ 0xc1 ∷ []) ≡ Bad Reserved
unfolding first_of fault_at item_begun payload_ended reading_of row_of named_rows
reserved = refl

deep : first_of 100 2 (0x91 ∷ 0x91 ∷ 0x90 ∷ []) ≡ Bad TooDeep
unfolding first_of fault_at item_begun payload_ended reading_of row_of named_rows
deep = refl

long : first_of 16777216 64 (0xdb ∷ 0x00 ∷ 0xff ∷ 0xff ∷ 0xfc ∷ []) ≡ Bad TooLong
unfolding first_of fault_at item_begun payload_ended reading_of row_of named_rows
long = refl

longest : first_of 16777216 64 (0xdb ∷ 0x00 ∷ 0xff ∷ 0xff ∷ 0xfb ∷ []) ≡ Short
unfolding first_of fault_at item_begun payload_ended reading_of row_of named_rows
longest = refl

stream : split_of 100 64 (0xc0 ∷ 0x91 ∷ 0x05 ∷ 0xa2 ∷ 0x61 ∷ [])
    ≡ Open ((0xc0 ∷ []) ∷ (0x91 ∷ 0x05 ∷ []) ∷ []) (0xa2 ∷ 0x61 ∷ [])
unfolding split_of first_of fault_at item_begun payload_ended reading_of row_of named_rows
stream = refl

elements : elements_of (0x92 ∷ 0x91 ∷ 0x05 ∷ 0xa1 ∷ 0x61 ∷ [])
    ≡ Some ((0x91 ∷ 0x05 ∷ []) ∷ (0xa1 ∷ 0x61 ∷ []) ∷ [])
unfolding parts_of row_of_values split_of first_of fault_at item_begun payload_ended reading_of row_of named_rows
elements = refl

pairs : pairs_of (0x81 ∷ 0xa1 ∷ 0x61 ∷ 0x05 ∷ [])
    ≡ Some ((0xa1 ∷ 0x61 ∷ [], 0x05 ∷ []) ∷ [])
unfolding parts_of row_of_values split_of first_of fault_at item_begun payload_ended reading_of row_of named_rows
pairs = refl

plain_text : plain_len (reading_of (0xa2 ∷ 0x61 ∷ 0x62 ∷ 0xc0 ∷ [])) ≡ Some 3
unfolding reading_of row_of named_rows
plain_text = refl

plain_ext : plain_len (reading_of (0xd7 ∷ 0x00 ∷ 0x65 ∷ [])) ≡ Some 10
unfolding reading_of row_of named_rows
plain_ext = refl

container : plain_len (reading_of (0x90 ∷ [])) ≡ None
unfolding reading_of row_of named_rows
container = refl
