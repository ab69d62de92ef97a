-- The definitions at work on a few lines.
use Rattle.std.proofs.Common.{◌≡◌, true, false, [], ◌∷◌, Some, None, refl, lit<, length, ◌-◌}
use Rattle.std.specs.Prelude.{codes}
use Rattle.std.specs.Fmt.{digits}
use Rattle.hex.specs.Hex.{decode_pairs, encode_with}
use Rattle.fwd_model.specs.declared.event.Event.TheVariants.{Choose, Up, Wrote, Heard, Settle, Late, End, Collect}
use Rattle.fwd_model.specs.declared.event.EndKind.TheVariants.{Kept, Lost}
use Rattle.fwd_model.specs.SessionFault.TheVariants.{EarlyAck, NotHelo, Denied, BadDigest}
use Rattle.fwd_model.specs.declared.fault.Refusal.TheVariants.{NotUp}
use Rattle.fwd_model.specs.declared.answer.Answer.TheVariants.{Chose, Quiet, Ready, Acked, SessionFaulted, Settled, Late as LateOrNot, Ended, Told, Refused}
use Rattle.fwd_script.specs.Words.{number_of, bytes_of, salt_of}
use Rattle.fwd_script.specs.Lines.{Long, Short, Ending, row, IsLineOf, ending_of, read_none, read_more, of_words, event_of, forms}
use Rattle.fwd_script.specs.Texts.{list_text, text_of}

-- ---- lines

wrote_line : event_of (codes "wrote 0 0 46") ≡ Some (Wrote 0 0 46)
unfolding of_words read_none read_more number_of digits
wrote_line = refl

heard_line : event_of (codes "heard 0 1 81a361636b")
    ≡ Some (Heard 0 1 (0x81 ∷ 0xa3 ∷ 0x61 ∷ 0x63 ∷ 0x6b ∷ []))
unfolding of_words read_none read_more number_of digits bytes_of decode_pairs encode_with
heard_line = refl

heard_nothing : event_of (codes "heard 0 1 -") ≡ Some (Heard 0 1 [])
unfolding of_words read_none read_more number_of digits bytes_of decode_pairs encode_with
heard_nothing = refl

settle_line : event_of (codes "settle 0 65535") ≡ Some (Settle 0 65535)
unfolding of_words read_none read_more number_of digits
settle_line = refl

worker_too_large : event_of (codes "settle 0 65536") ≡ None
unfolding of_words read_none read_more number_of digits
worker_too_large = refl

settle_has_no_moment : event_of (codes "settle 0 0 0") ≡ None
unfolding of_words read_none read_more number_of digits
settle_has_no_moment = refl

collect_line : event_of (codes "collect 65536 0") ≡ Some (Collect 65536 0)
unfolding of_words read_none read_more number_of digits
collect_line = refl

choose_line : event_of (codes "choose 0 1 1500") ≡ Some (Choose 0 1 1500)
unfolding of_words read_none read_more number_of digits
choose_line = refl

up_line : event_of (codes "up 0 1 2 0aff 7") ≡ Some (Up 0 1 2 (0x0a ∷ 0xff ∷ []) 7)
unfolding of_words read_none read_more number_of digits bytes_of salt_of decode_pairs encode_with
up_line = refl

up_without_salt : event_of (codes "up 0 1 2 - 7") ≡ Some (Up 0 1 2 [] 7)
unfolding of_words read_none read_more number_of digits bytes_of salt_of decode_pairs encode_with
up_without_salt = refl

late_line : event_of (codes "late 0 1 18446744073709551615")
    ≡ Some (Late 0 1 18446744073709551615)
unfolding of_words read_none read_more number_of digits
late_line = refl

end_kept_line : event_of (codes "end 0 1 kept 9") ≡ Some (End 0 1 Kept 9)
unfolding of_words read_none read_more number_of ending_of digits
end_kept_line = refl

end_lost_line : event_of (codes "end 0 1 lost 9") ≡ Some (End 0 1 Lost 9)
unfolding of_words read_none read_more number_of ending_of digits
end_lost_line = refl

kind_stands_before_the_moment : event_of (codes "end 0 1 9 kept") ≡ None
unfolding of_words read_none read_more number_of ending_of digits
kind_stands_before_the_moment = refl

end_spelled : IsLineOf (End 1 2 Lost 30) (codes "end 1 2 lost 30")
unfolding digits
end_spelled = record {
  spelling = record {
    form = row (codes "end") (Short ∷ Short ∷ Ending ∷ Long ∷ []) End;
    is_row = (length forms - 1, lit< tt, refl);
    values = (1, (2, (Lost, (30, tt))));
    makes = refl;
  };
  fits = (lit< tt, (lit< tt, (tt, (lit< tt, tt))));
  spells = refl;
}

-- ---- answers

no_numbers : list_text [] ≡ codes "-"
no_numbers = refl

one_number : list_text (1 ∷ []) ≡ codes "1"
unfolding digits
one_number = refl

three_numbers : list_text (1 ∷ 12 ∷ 3 ∷ []) ≡ codes "1,12,3"
unfolding digits
three_numbers = refl

chose : text_of (Chose (Some 15)) ≡ codes "server 15"
unfolding digits
chose = refl

chose_none : text_of (Chose None) ≡ codes "server -"
chose_none = refl

quiet : text_of (Quiet []) ≡ codes "quiet out -"
quiet = refl

ready : text_of (Ready (0xc3 ∷ [])) ≡ codes "ready out c3"
unfolding digits encode_with
ready = refl

acked : text_of (Acked []) ≡ codes "acked out -"
acked = refl

early : text_of (SessionFaulted EarlyAck) ≡ codes "fault EarlyAck"
early = refl

not_helo : text_of (SessionFaulted NotHelo) ≡ codes "fault NotHelo"
not_helo = refl

denied : text_of (SessionFaulted Denied) ≡ codes "fault Denied"
denied = refl

bad_digest : text_of (SessionFaulted BadDigest) ≡ codes "fault BadDigest"
bad_digest = refl

settled : text_of (Settled 1) ≡ codes "settled 1"
unfolding digits
settled = refl

late : text_of (LateOrNot true) ≡ codes "late yes"
late = refl

not_late : text_of (LateOrNot false) ≡ codes "late no"
not_late = refl

ended : text_of (Ended (1 ∷ 2 ∷ [])) ≡ codes "ended 1,2"
unfolding digits
ended = refl

ended_none : text_of (Ended []) ≡ codes "ended -"
ended_none = refl

told : text_of (Told (1 ∷ []) (0x81 ∷ 0xa3 ∷ 0x61 ∷ 0x63 ∷ 0x6b ∷ 0xa1 ∷ 0x78 ∷ []))
    ≡ codes "told 1 out 81a361636ba178"
unfolding digits encode_with
told = refl

told_none : text_of (Told [] []) ≡ codes "told - out -"
told_none = refl

down : text_of (Refused NotUp) ≡ codes "refused NotUp"
down = refl
