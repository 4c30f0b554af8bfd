pub mod Bottom
pub mod Disowned
pub mod Ended
pub mod Ends
pub mod Passing
pub mod Returning
pub mod Stayed
pub mod Stop
