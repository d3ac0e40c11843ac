-- The call that a note names.
use Rattle.tier_device.specs.DeviceCall.{DeviceCall, Write, Fence}
use Rattle.host_media.specs.History.{History, and_then}
use Rattle.host_media.specs.declared.past.Note.{Note}
use Rattle.host_media.specs.declared.past.Note.TheVariants as note

abbrev pub noted_call : Note → DeviceCall
noted_call (note.Write tier at bytes) = Write tier at bytes.now
noted_call (note.Fence tier) = Fence tier

abbrev pub after_note : History → Note → History
after_note h told = and_then h (noted_call told)
