-- What the answers of the readers show.
use Rattle.std.specs.Prelude.{ℕ, List, Option, Some, None, Result, Ok, Err}
use Rattle.std.specs.Option.{option_map, option_copied}
use Rattle.fwd_msgpack.specs.Values.{bytes_of}
use Rattle.fwd_modes.specs.Requests as requests
use Rattle.fwd_modes.specs.Requests.{one_entry, unpacked}
use Rattle.fwd_modes.specs.Requests.Reading.{Heartbeat as heartbeat, Asks as asks, Fails as fails}
use Rattle.fwd_modes.specs.declared.fault.InputFault.{InputFault}
use Rattle.fwd_modes.specs.declared.request.Reading.{Reading}
use Rattle.fwd_modes.specs.declared.request.Reading.TheVariants.{Heartbeat, Asks, Fails}
use Rattle.fwd_modes.specs.declared.entry.Entry.{Entry}
use Rattle.fwd_modes.specs.declared.entries.Entries.{Entries}
use Rattle.fwd_modes.specs.declared.request_fields.EntriesForm.{EntriesForm}
use Rattle.fwd_modes.specs.declared.request_fields.EntriesForm.TheVariants.{One, List as Listed, Packed}
use Rattle.fwd_modes.specs.declared.request_fields.RequestFields.{RequestFields}
use Rattle.fwd_modes.specs.declared.envelope.Envelope.{Envelope}
use Rattle.fwd_modes.specs.declared.fault.InputFault.TheVariants.{BadEntry}
use Rattle.fwd_modes.specs.Entries.{kept_entry, cut_at, listed_entries}

-- what a reading says
abbrev pub shown : Reading → requests.Reading
shown Heartbeat = heartbeat
shown (Asks batch) = asks batch
shown (Fails fault) = fails fault

-- an entry as it is kept
abbrev pub kept : Entry → List ℕ
kept e = kept_entry e.time.now e.fields.now

-- the entries that are still to come
abbrev pub entries_left : Entries → List (List ℕ)
entries_left e = cut_at e.place e.ends.now e.bytes.now

-- the entries, wherever they stand, if each is one
abbrev pub entries_given : (deep : ℕ) → EntriesForm → Option (List (List ℕ))
entries_given deep (One entry) = one_entry (option_map kept entry)
entries_given deep (Listed list) = listed_entries (bytes_of list)
entries_given deep (Packed packed) = unpacked deep (bytes_of packed)

-- the parts of a request
abbrev pub parts_shown : (deep : ℕ) → RequestFields → requests.RequestFields
parts_shown deep p =
    record {
      tag = bytes_of p.tag;
      entries = entries_given deep p.entries;
      option = option_map bytes_of p.option;
    }

-- what was judged: the tag and the chunk, with entries beside them
abbrev pub with_entries : List (List ℕ) → Envelope → requests.Reading
with_entries entries asked =
    asks (record { tag = asked.tag.now; entries = entries; chunk = option_copied asked.chunk })

-- what stands beside the entries, which decides where they are good
abbrev pub judged : Option (List (List ℕ)) → Result Envelope InputFault → requests.Reading
judged None (Ok asked) = fails BadEntry
judged (Some entries) (Ok asked) = with_entries entries asked
judged entries (Err fault) = fails fault
