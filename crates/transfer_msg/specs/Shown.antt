-- What the view of a data transfer message shows, in the terms of its definition (`DataFrame` of smbd_base).
use Rattle.std.specs.Prelude.{Result, Ok, Err}
use Rattle.smbd_base.specs.declared.faults.FrameFault.{FrameFault}
use Rattle.smbd_base.specs.DataFrame.{DataFrame}
use Rattle.transfer_msg.specs.declared.view.DataView.{DataView}

-- the view's fields, and the bytes of its payload
abbrev pub shown_frame : DataView → DataFrame
shown_frame view = record {
  credits_requested = view.credits_requested;
  credits_granted = view.credits_granted;
  flags = view.flags;
  remaining = view.remaining;
  payload = view.payload.now;
}

-- what is shown, or the fault that was found
abbrev pub shown_result : Result DataView FrameFault → Result DataFrame FrameFault
shown_result (Ok view) = Ok (shown_frame view)
shown_result (Err fault) = Err fault
