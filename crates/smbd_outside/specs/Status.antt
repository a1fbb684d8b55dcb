-- How a program ends: its exit status, and what it prints (this project's own).
use Rattle.std.specs.Prelude.{ℕ, List, [], ◌++◌, codes, decimal}
use Rattle.smbd_outside.specs.declared.status.Status.{Status}
use Rattle.smbd_outside.specs.declared.status.Status.TheVariants.{Done, Usage, ReadFault, WriteFault, LogFault, TooLong, Cut, BadInput, NoMemory}

-- the exit status
abbrev pub code_of : Status → ℕ
code_of Done = 0
code_of Usage = 2
code_of ReadFault = 3
code_of WriteFault = 4
code_of LogFault = 5
code_of TooLong = 6
code_of Cut = 7
code_of (BadInput line) = 8
code_of NoMemory = 9

-- the text on standard error, with its line feed
abbrev pub text_of : Status → List ℕ
text_of Done = []
text_of Usage = codes "smbd: usage\n"
text_of ReadFault = codes "smbd: the source failed\n"
text_of WriteFault = codes "smbd: the sink failed\n"
text_of LogFault = codes "smbd: the log failed\n"
text_of TooLong = codes "smbd: more than 16777216 bytes\n"
text_of Cut = codes "smbd: the link was cut\n"
text_of (BadInput line) = codes "smbd: line " ++ (decimal line ++ codes " is not understood\n")
text_of NoMemory = codes "smbd: no memory\n"
